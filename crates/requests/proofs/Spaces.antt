-- The first word of a line and what stands behind it, by the place of the first space.
use Rattle.std.proofs.Common.{◌≡◌, refl, sym, ap, ◌∙◌, Bool, true, false, cond, List, [], ◌∷◌, ℕ, zero, suc, ◌+◌, ◌<◌, ◌≤◌}
use Rattle.std.proofs.Common.{Some, None, length, take, drop, get_or, eqb, ltb, arith, position, add-one, ◌-◌, length-drop}
use lib.Seq.{take_all}
use borrow.Author.Tests.{ltb-false}
use Rattle.std.specs.List.{position_or_len}
use Rattle.std.proofs.lemmas.List.Quantifiers.{position-Some}
use Rattle.std.proofs.lemmas.List.Sums.{fails_before_first}
use Rattle.requests.specs.Words.{words_of}

abbrev space : ℕ → Bool
space b = eqb b 32

-- up to a space, and behind it
split : (l : List ℕ) (i : ℕ) → i < length l → space (get_or l i 0) ≡ true
    → ((k : ℕ) → k < i → space (get_or l k 0) ≡ false) → words_of l ≡ take i l ∷ words_of (drop (i + 1) l)
unfolding words_of
split [] i h e n = absurd (let no : ⊥ = omega arith in no)
split (b ∷ l) zero h e n = rw e refl
split (b ∷ l) (suc i) h e n =
    rw (n 0 (omega arith), split l i (omega arith) e (λ k m. n (suc k) (omega arith)), add-one i, add-one (suc i)) refl

-- a word alone
alone : (l : List ℕ) → ((k : ℕ) → k < length l → space (get_or l k 0) ≡ false) → words_of l ≡ l ∷ []
unfolding words_of
alone [] n = refl
alone (b ∷ l) n = rw (n 0 (omega arith), alone l (λ k m. n (suc k) (omega arith))) refl

pub at_space : (l : List ℕ) (i : ℕ) → Some i ≡ position space l → words_of l
    ≡ take i l ∷ words_of (take (length l - (i + 1)) (drop (i + 1) l))
at_space l i e =
    let p = position-Some space l i 0 (sym e) in
    let all : length (drop (i + 1) l) ≤ length l - (i + 1) = rw length-drop (omega arith) in
    split l i p.0 p.1 p.2
    ∙ ap (λ (m : List ℕ). take i l ∷ words_of m) (sym (take_all (length l - (i + 1)) (drop (i + 1) l) all))

pub no_space : (l : List ℕ) → None ≡ position space l → words_of l ≡ l ∷ []
no_space l e = alone l (λ k h. fails_before_first space l k 0 (past k h))
  where
    go : (t : Bool) → ltb (position_or_len space l) (length l) ≡ t → None ≡ cond t (Some (position_or_len space l)) None
        → length l ≤ position_or_len space l
    go true q p = absurd (let no : ◌≡◌ {A = ℕ} 0 1 = cc in let none : ⊥ = omega arith in none)
    go false q p = ltb-false (position_or_len space l) (length l) q

    past : (k : ℕ) → k < length l → k < position_or_len space l
    past k h = let most = go (ltb (position_or_len space l) (length l)) refl e in omega arith
