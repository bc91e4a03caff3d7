-- What accepted cost tables have: every entry is in range, and so a rate is at most one largest entry for each unit of
-- the magnitude and two more. Later bounds of prices rest on it.
use Rattle.std.proofs.Common.{◌≡◌, ℕ, zero, suc, ◌+◌, ◌-◌, ◌*◌, ◌≤◌, Bool, false, ◌||◌, List, [], ◌∷◌, length}
use Rattle.std.proofs.Common.{get_or, take, drop, sym, refl, ap, ◌∙◌, zero-le, mul-le-mul_left, arith}
use Rattle.std.proofs.Common.{drop-cons, le-ltb, ltb-false}
use Rattle.integers.specs.Sum.{over, on_or}
use Rattle.integers.specs.Tests.{some, listed}
use Rattle.integers.proofs.Over.{tests, some_over, over_part, over_end}
use Rattle.integers.proofs.Tests.{neither}
use Rattle.integers.proofs.Lists.{passed_by_none}
use Rattle.price.specs.declared.Costs.{Costs}
use Rattle.price.specs.Inner.Bits.{NoneAbove}
use Rattle.price.specs.Costs.{four_at, eight_at, costs_of, dear, cost_refused, InRange, Rows, run_row, rate}

none_dear : (table : List ℕ) → some dear table ≡ false → (k : ℕ) → get_or table k 0 ≤ 1048576
unfolding some
none_dear [] e k = zero-le
none_dear (x ∷ xs) e zero = ltb-false 1048576 x (neither (dear x) (some dear xs) e).0
none_dear (x ∷ xs) e (suc k) = none_dear xs (neither (dear x) (some dear xs) e).1 k

-- a stretch of a list, entry by entry
pub part_listed : (n i : ℕ) (l : List ℕ) → i + n ≤ length l → take n (drop i l) ≡ listed (λ k. get_or l k 0) i n
unfolding listed
part_listed zero i l h = refl
part_listed (suc n) i l h =
    rw (drop-cons l i 0 (omega arith)) (ap (λ (m : List ℕ). get_or l i 0 ∷ m) (part_listed n (suc i) l (omega arith)))

-- some of the 28 numbers is dear where some entry of the tables is
pub dear_in_all : (l : List ℕ) → length l ≡ 28 → some dear l ≡ cost_refused (costs_of l)
unfolding cost_refused costs_of listed
dear_in_all l h =
    let part : (i n : ℕ) → i + n ≤ 28 → over on_or dear (drop i l)
    ≡ (some dear (listed (λ k. get_or l k 0) i n) || over on_or dear (drop (i + n) l)) =
    λ i n k. let e : i + n - i ≡ n = omega arith in
    over_part tests dear l i (i + n) (omega arith)
    ∙ ap (λ (t : Bool). t || over on_or dear (drop (i + n) l))
    (sym (some_over dear (take (i + n - i) (drop i l)))
    ∙ ap (λ (m : ℕ). some dear (take m (drop i l))) e
    ∙ ap (λ (m : List ℕ). some dear m) (part_listed n i l (omega arith))) in
    let run = some dear (eight_at 0 l) in
    let level = some dear (eight_at 8 l) in
    let last = some dear (four_at 16 l) in
    let cbf = some dear (eight_at 20 l) in
    some_over dear l
    ∙ part 0 8 (omega arith)
    ∙ ap (λ (t : Bool). run || t) (part 8 8 (omega arith)
    ∙ ap (λ (t : Bool). level || t) (part 16 4 (omega arith)
    ∙ ap (λ (t : Bool). last || t) (part 20 8 (omega arith)
    ∙ over_end tests dear l 28 cbf (omega arith))))
    ∙ sym (tests.assoc (run || level) last cbf ∙ tests.assoc run level (last || cbf))

-- and none is, where nothing above the limit bounds the 28
pub refused_by_none : (l : List ℕ) (most : ℕ) → length l ≡ 28 → NoneAbove most l → most ≤ 1048576
    → cost_refused (costs_of l) ≡ false
refused_by_none l most long none h =
    sym (dear_in_all l long)
    ∙ passed_by_none 0 dear l (λ k lt. le-ltb 1048576 (get_or l k 0) (omega (arith, none k lt)))

pub costs_in_range : {t : Costs} → cost_refused t ≡ false → InRange t
unfolding cost_refused
costs_in_range {t} e =
    let to_last = neither (some dear t.run || some dear t.level || some dear t.last) (some dear t.cbf) e in
    let to_level = neither (some dear t.run || some dear t.level) (some dear t.last) to_last.0 in
    let to-run = neither (some dear t.run) (some dear t.level) to_level.0 in
    record {
      run = none_dear t.run to-run.0;
      level = none_dear t.level to-run.1;
      last = none_dear t.last to_level.1;
      cbf = none_dear t.cbf to_last.1;
    }

module _ (sign : ℕ) (t : Costs) (rows : Rows) (s : sign ≤ 1048576) (h : InRange t) where
  -- whichever entries are read
  sum_bound : (n x y v w : ℕ) → x ≤ 1048576 → y ≤ 1048576 → v ≤ 1048576 → w ≤ 1048576
      → sign + x + (y + n * v + w) ≤ 1048576 * (suc (suc n) + 2)
  sum_bound n x y v w hx hy hv hw = omega (arith, mul-le-mul_left n hv)

  pub rate_bound : (after_zero : Bool) (a : ℕ) → rate sign t rows after_zero a ≤ 1048576 * (a + 2)
  unfolding rate
  rate_bound z zero = omega (arith, h.run (2 * run_row rows z + 1))
  rate_bound z (suc zero) = omega (arith, h.run (2 * run_row rows z + 0), h.level (2 * rows.level + 0))
  rate_bound z (suc (suc n)) = sum_bound n _ _ _ _ (h.run _) (h.level _) (h.level _) (h.level _)
