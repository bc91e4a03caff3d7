-- The places of the coefficients in a row: those of side 32 serve every side, at a step of 32 over the side. One
-- computed test.
use mathlib.Core.Path.{◌≡◌, sym, ◌∙◌, ap, subst}
use mathlib.Core.Bool.{Bool, cond, ◌&&◌}
use mathlib.Core.List.{List}
use Prim.Native.Nat.{ℕ, zero, suc, ◌+◌, ◌-◌, ◌*◌, ◌/◌, ◌^◌, ◌<◌, ◌≤◌}
use native.Mathlib.Omega.{arith}
use lib.Dec.{T, eqb, eqb→eq, ltb, ltb→lt}
use lib.ListN.{get_or}
use mir.Facts.{and_yes}
use Rattle.integers.specs.Tests.{all, listed}
use Rattle.integers.proofs.Tests.{all_at}
use Rattle.refusals.specs.Sides.{most_log2}
use Rattle.butterfly.specs.Inner.Lines.{place}

-- the table
unfoldable pub table : List ℕ
unfolding listed place
table = listed (place 5) 0 32

right : ℕ → ℕ → Bool
right l k =
    ltb (k * (32 / 2 ^ l)) 32 && (eqb (get_or table (k * (32 / 2 ^ l)) 0) (place l k) && ltb (place l k) (2 ^ l))

computed : T (all 6 (λ l. all (2 ^ l) (right l)))
unfolding all right table place
computed = tt

-- m is the side
module _ (l : ℕ) (hl : l ≤ most_log2) (m : ℕ) (em : m ≡ 2 ^ l) (k : ℕ) (hk : k < m) where
  passed : T (right l k)
  passed = all_at (2 ^ l) (right l) (all_at 6 (λ l. all (2 ^ l) (right l)) computed l (omega arith)) k (omega arith)

  pub step_inside : k * (32 / m) < 32
  unfolding right
  step_inside =
      subst (λ (n : ℕ). k * (32 / n) < 32) (sym em)
      (ltb→lt (k * (32 / 2 ^ l)) 32
      (and_yes (ltb (k * (32 / 2 ^ l)) 32) (eqb (get_or table (k * (32 / 2 ^ l)) 0) (place l k)
      && ltb (place l k) (2 ^ l)) passed).0)

  rest : T (eqb (get_or table (k * (32 / 2 ^ l)) 0) (place l k) && ltb (place l k) (2 ^ l))
  unfolding right
  rest =
      (and_yes (ltb (k * (32 / 2 ^ l)) 32) (eqb (get_or table (k * (32 / 2 ^ l)) 0) (place l k) && ltb (place l k) (2 ^ l))
      passed).1

  pub place_at : (held : List ℕ) → held ≡ table → get_or held (k * (32 / m)) 0 ≡ place l k
  place_at held et =
      ap (λ (t : List ℕ). get_or t (k * (32 / m)) 0) et
      ∙ ap (λ (n : ℕ). get_or table (k * (32 / n)) 0) em
      ∙ eqb→eq (get_or table (k * (32 / 2 ^ l)) 0) (place l k)
      (and_yes (eqb (get_or table (k * (32 / 2 ^ l)) 0) (place l k)) (ltb (place l k) (2 ^ l)) rest).0

  pub place_inside : place l k < m
  place_inside =
      subst (λ (n : ℕ). place l k < n) (sym em)
      (ltb→lt (place l k) (2 ^ l) (and_yes (eqb (get_or table (k * (32 / 2 ^ l)) 0) (place l k)) (ltb (place l k) (2 ^ l))
      rest).1)

-- ---- every place of a row of side 32 is some coefficient's
rank : ℕ → ℕ → ℕ
rank zero p = 0
rank (suc l) p = cond (ltb p (2 ^ l)) (2 * rank l p) (2 * (p - 2 ^ l) + 1)

ranked : ℕ → Bool
ranked p = ltb (rank 5 p) 32 && eqb (place 5 (rank 5 p)) p

onto_computed : T (all 32 ranked)
unfolding all ranked rank place
onto_computed = tt

pub record Coefficient (p : ℕ) : Type 0 where
  pub number : ℕ
  pub inside : number < 32
  pub there : place 5 number ≡ p

pub coefficient_at : (p : ℕ) → p < 32 → Coefficient p
unfolding ranked
coefficient_at p h =
    let t = and_yes (ltb (rank 5 p) 32) (eqb (place 5 (rank 5 p)) p) (all_at 32 ranked onto_computed p h) in
    record {
      number = rank 5 p;
      inside = ltb→lt (rank 5 p) 32 t.0;
      there = eqb→eq (place 5 (rank 5 p)) p t.1;
    }
