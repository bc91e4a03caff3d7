-- The candidates of an accepted block: each has a magnitude for each place, and each of these is 0, m or m - 1. The
-- last one is m throughout.
use mathlib.Core.Path.{◌≡◌, refl, sym, ap, subst, ◌∙◌}
use mathlib.Core.Logic.{inl, inr, ⊎_elim}
use mathlib.Core.Bool.{Bool, true, false, cond}
use mathlib.Core.List.{List, [], ◌∷◌, map}
use Prim.Native.Nat.{ℕ, zero, suc, ◌+◌, ◌^◌, ◌≤◌, ◌<◌}
use native.Mathlib.Nat.{not-suc-le-zero, le_of_suc-le-suc}
use native.Mathlib.Omega.{arith}
use lib.Pow.{pow-add}
use lib.ListN.{length, get_or, length-map}
use Rattle.integers.specs.Tests.{listed}
use Rattle.integers.proofs.Lists.{map_at}
use Rattle.integers.proofs.Order.{below_or_not}
use Rattle.integers.proofs.Tests.{listed_at, listed_length}
use Rattle.refusals.specs.Faults.{passed}
use Rattle.price.specs.Rule.{Allowed}
use Rattle.coding.specs.Block.{Quant, area, rule_of, places, is_skipped, written_in, magnitudes}
use Rattle.coding.specs.Call.{quant_verdict}
use Rattle.coding.proofs.Modes.{zero_or_m_or_m-1}
use Rattle.coding.proofs.Promises.{L-count, magnitudes_count}
use Rattle.guarding.specs.Block.{plain, put_back, candidates}

-- ---- the first p of a list put back
pub put_back_before : (p : ℕ) (ms rs : List ℕ) (k : ℕ) → length ms ≡ length rs → k < p → k < length rs
    → get_or (put_back p ms rs) k 0 ≡ get_or rs k 0
unfolding put_back
put_back_before zero ms rs k e h l = absurd (not-suc-le-zero h)
put_back_before (suc p) ms [] k e h l = absurd (not-suc-le-zero l)
put_back_before (suc p) [] (r ∷ rs) k e h l = absurd (let no : ⊥ = omega arith in no)
put_back_before (suc p) (m ∷ ms) (r ∷ rs) zero e h l = refl
put_back_before (suc p) (m ∷ ms) (r ∷ rs) (suc k) e h l =
    put_back_before p ms rs k (omega arith) (le_of_suc-le-suc h) (le_of_suc-le-suc l)

pub put_back_behind : (p : ℕ) (ms rs : List ℕ) (k : ℕ) → length ms ≡ length rs → p ≤ k
    → get_or (put_back p ms rs) k 0 ≡ get_or ms k 0
unfolding put_back
put_back_behind zero ms rs k e h = refl
put_back_behind (suc p) [] [] k e h = refl
put_back_behind (suc p) [] (r ∷ rs) k e h = absurd (let no : ⊥ = omega arith in no)
put_back_behind (suc p) (m ∷ ms) [] k e h = absurd (let no : ⊥ = omega arith in no)
put_back_behind (suc p) (m ∷ ms) (r ∷ rs) zero e h = absurd (not-suc-le-zero h)
put_back_behind (suc p) (m ∷ ms) (r ∷ rs) (suc k) e h =
    put_back_behind p ms rs k (omega arith) (le_of_suc-le-suc h)

pub put_back_length : (p : ℕ) (ms rs : List ℕ) → length ms ≡ length rs → length (put_back p ms rs) ≡ length rs
unfolding put_back
put_back_length zero ms rs e = e
put_back_length (suc p) [] [] e = refl
put_back_length (suc p) [] (r ∷ rs) e = absurd (let no : ⊥ = omega arith in no)
put_back_length (suc p) (m ∷ ms) [] e = absurd (let no : ⊥ = omega arith in no)
put_back_length (suc p) (m ∷ ms) (r ∷ rs) e = ap suc (put_back_length p ms rs (omega arith))

pub put_back_all : (p : ℕ) (ms rs : List ℕ) → length ms ≡ length rs → length rs ≤ p → put_back p ms rs ≡ rs
unfolding put_back
put_back_all zero [] [] e h = refl
put_back_all zero ms (r ∷ rs) e h = absurd (not-suc-le-zero h)
put_back_all zero (m ∷ ms) [] e h = absurd (let no : ⊥ = omega arith in no)
put_back_all (suc p) [] [] e h = refl
put_back_all (suc p) [] (r ∷ rs) e h = absurd (let no : ⊥ = omega arith in no)
put_back_all (suc p) (m ∷ ms) [] e h = absurd (let no : ⊥ = omega arith in no)
put_back_all (suc p) (m ∷ ms) (r ∷ rs) e h = ap (λ (l : List ℕ). r ∷ l) (put_back_all p ms rs (omega arith)
    (le_of_suc-le-suc h))

-- ---- the candidates one by one
module _ (c : Quant) where
  abbrev repaired : ℕ → List ℕ
  repaired i = put_back (2 ^ i) (magnitudes c) (plain c)

  abbrev pub repairs : List (List ℕ)
  repairs = listed (λ i. put_back (2 ^ i) (magnitudes c) (plain c)) 0 (suc (c.lw + c.lh))

  pub candidates_are : candidates c ≡ magnitudes c ∷ repairs
  unfolding candidates
  candidates_are = refl

  pub candidates_count : length (candidates c) ≡ suc (suc (c.lw + c.lh))
  unfolding candidates
  candidates_count = ap suc (listed_length repaired 0 (suc (c.lw + c.lh)))

  pub first_candidate : get_or (candidates c) 0 [] ≡ magnitudes c
  unfolding candidates
  first_candidate = refl

  pub later_candidate : (i : ℕ) → i ≤ c.lw + c.lh
      → get_or (candidates c) (suc i) [] ≡ put_back (2 ^ i) (magnitudes c) (plain c)
  unfolding candidates
  later_candidate i h = listed_at [] repaired (suc (c.lw + c.lh)) i (omega arith)

  -- what holds of the block that the mode writes and of each repaired one holds of each candidate
  pub of_each : (P : List ℕ → Type 0) → P (magnitudes c)
      → ((i : ℕ) → i ≤ c.lw + c.lh → P (put_back (2 ^ i) (magnitudes c) (plain c)))
      → (n : ℕ) → n < length (candidates c) → P (get_or (candidates c) n [])
  of_each P a b zero h = subst P (sym first_candidate) a
  of_each P a b (suc i) h =
      let l : i ≤ c.lw + c.lh = omega (arith, candidates_count) in subst P (sym (later_candidate i l)) (b i l)

-- ---- of an accepted block
module _ (c : Quant) (ok : quant_verdict c ≡ passed) where
  -- m of a scan place
  abbrev m : ℕ → ℕ
  m p = (rule_of c).top (get_or (places c) p 0)

  pub plain_count : length (plain c) ≡ area c
  unfolding plain
  plain_count = length-map (places c) (rule_of c).top ∙ L-count c ok

  pub plain_at : (p : ℕ) → p < area c → get_or (plain c) p 0 ≡ (rule_of c).top (get_or (places c) p 0)
  unfolding plain
  plain_at p h = map_at 0 0 (rule_of c).top (places c) p (omega (arith, L-count c ok))

  as_many : length (magnitudes c) ≡ length (plain c)
  as_many = magnitudes_count c ok ∙ sym plain_count

  -- of the block that the mode writes, skipped or not
  pub magnitudes_allowed : (p : ℕ) → p < area c → Allowed (m p) (get_or (magnitudes c) p 0)
  unfolding magnitudes
  magnitudes_allowed p h = by (is_skipped c)
    where
      by : (t : Bool)
          → Allowed (m p) (get_or (cond t (map (λ L. 0) (places c)) (written_in c.mode (rule_of c) (places c))) p 0)
      by true = inl (map_at 0 0 (λ L. 0) (places c) p (omega (arith, L-count c ok)))
      by false = zero_or_m_or_m-1 c.mode (rule_of c) (places c) p (omega (arith, L-count c ok))

  pub repaired_length : (i : ℕ) → length (put_back i (magnitudes c) (plain c)) ≡ area c
  repaired_length i = put_back_length i (magnitudes c) (plain c) as_many ∙ plain_count

  pub repaired_allowed : (i p : ℕ) → p < area c → Allowed (m p) (get_or (put_back i (magnitudes c) (plain c)) p 0)
  repaired_allowed i p h =
      ⊎_elim
      (λ (l : p < i).
      inr (inl (put_back_before i (magnitudes c) (plain c) p as_many l (omega (arith, plain_count)) ∙ plain_at p h)))
      (λ (l : i ≤ p).
      subst (Allowed (m p)) (sym (put_back_behind i (magnitudes c) (plain c) p as_many l)) (magnitudes_allowed p h))
      (below_or_not p i)

  pub candidate_length : (n : ℕ) → n < length (candidates c) → length (get_or (candidates c) n []) ≡ area c
  candidate_length =
      of_each c (λ (l : List ℕ). length l ≡ area c) (magnitudes_count c ok) (λ i h. repaired_length (2 ^ i))

  pub candidate_allowed : (n : ℕ) → n < length (candidates c) → (p : ℕ) → p < area c
      → Allowed ((rule_of c).top (get_or (places c) p 0)) (get_or (get_or (candidates c) n []) p 0)
  candidate_allowed =
      of_each c (λ (l : List ℕ). (p : ℕ) → p < area c → Allowed (m p) (get_or l p 0)) magnitudes_allowed
      (λ i h. repaired_allowed (2 ^ i))

  pub plain_is_last : put_back (2 ^ (c.lw + c.lh)) (magnitudes c) (plain c) ≡ plain c
  unfolding area
  plain_is_last =
      put_back_all (2 ^ (c.lw + c.lh)) (magnitudes c) (plain c) as_many
      (omega (arith, plain_count, pow-add 2 c.lw c.lh))

  pub last_candidate : get_or (candidates c) (suc (c.lw + c.lh)) [] ≡ plain c
  last_candidate = later_candidate c (c.lw + c.lh) (omega arith) ∙ plain_is_last
