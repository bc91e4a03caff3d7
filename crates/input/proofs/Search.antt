-- The search for a newline, by places of the buffer: what `newline_in` says of the bytes that are left, for the contract
-- of `next_line`, which speaks of the bytes alone.
use Rattle.std.proofs.Common.{◌≡◌, refl, sym, ap, ◌∙◌, Bool, true, false, cond, ℕ, ◌+◌, ◌-◌, ◌≤◌, ◌<◌, List, Some, None}
use Rattle.std.proofs.Common.{length, drop, get_or, eqb, ltb, arith, position, length-drop}
use borrow.Author.Tests.{eqb-true, eqb-false, ltb-false}
use lib.Seq.{length-take-le, get_or-take, get_or-drop}
use Rattle.std.specs.List.{position_or_len}
use Rattle.std.proofs.lemmas.List.Quantifiers.{position-Some}
use Rattle.std.proofs.lemmas.List.Sums.{fails_before_first}
use Rattle.input.specs.Lines.{part}

-- no byte of the buffer from `from` up to `end` is a newline
abbrev pub NoNewline : List ℕ → ℕ → ℕ → Type 0
NoNewline buf from end = (k : ℕ) → k < end → from ≤ k → get_or buf k 0 ≡ 10 → ⊥

-- `end` is the place of the first newline from `from` on, or `have` where none stands before `have`
pub record FirstNewline (buf : List ℕ) (from have end : ℕ) : Type 0 where
  pub after : from ≤ end
  pub within : end ≤ have
  pub none : NoNewline buf from end
  pub found : end < have → get_or buf end 0 ≡ 10

abbrev newline : ℕ → Bool
newline b = eqb b 10

module _ (buf : List ℕ) (from have : ℕ) (order : from ≤ have) (held : have ≤ length buf) where
  size : length (part buf from have) ≡ have - from
  size = length-take-le (have - from) (drop from buf) (simp length-drop (omega arith))

  -- a byte of the part by its place
  there : (k : ℕ) → k < have - from → get_or (part buf from have) k 0 ≡ get_or buf (from + k) 0
  there k h = get_or-take (have - from) (drop from buf) k 0 h ∙ get_or-drop from buf k 0

  upto : (n : ℕ) → n ≤ have - from → ((k : ℕ) → k < n → newline (get_or (part buf from have) k 0) ≡ false)
      → NoNewline buf from (from + n)
  upto n h fails k l m e =
      let i : ℕ = k - from in
      let place : from + i ≡ k = omega arith in
      let byte : get_or (part buf from have) i 0 ≡ 10 = there i (omega arith) ∙ ap (λ j. get_or buf j 0) place ∙ e in
      eqb-false (get_or (part buf from have) i 0) 10 (fails i (omega arith)) byte

  pub found_at : (i : ℕ) → Some i ≡ position newline (part buf from have)
      → FirstNewline buf from have (from + i) × (from + i < have)
  found_at i e =
      let p = position-Some newline (part buf from have) i 0 (sym e) in
      let below : i < have - from = omega (arith, p.0, size) in (
        record {
          after = omega arith;
          within = omega arith;
          none = upto i (omega arith) p.2;
          found = λ h. sym (there i below) ∙ eqb-true (get_or (part buf from have) i 0) 10 p.1;
        },
        omega arith,
      )

  pub none_found : None ≡ position newline (part buf from have) → FirstNewline buf from have have
  none_found e =
      let all : from + (have - from) ≡ have = omega arith in
      record {
        after = order;
        within = omega arith;
        none = rw all at (upto (have - from) (omega arith) (λ k h. fails_before_first newline (part buf from have) k 0 (past k h)));
        found = λ h. absurd (let no : ⊥ = omega arith in no);
      }
    where
      go : (t : Bool) → ltb (position_or_len newline (part buf from have)) (length (part buf from have)) ≡ t
          → None ≡ cond t (Some (position_or_len newline (part buf from have))) None
          → length (part buf from have) ≤ position_or_len newline (part buf from have)
      go true q p = absurd (let no : ◌≡◌ {A = ℕ} 0 1 = cc in let none : ⊥ = omega arith in none)
      go false q p = ltb-false (position_or_len newline (part buf from have)) (length (part buf from have)) q

      past : (k : ℕ) → k < have - from → k < position_or_len newline (part buf from have)
      past k h =
          let most = go (ltb (position_or_len newline (part buf from have)) (length (part buf from have))) refl e in
          omega (arith, size)
