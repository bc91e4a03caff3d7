-- `candidates::repair` meets its contract: a block of a side up to 32 fits rooms of 1,024 places; the coefficients again,
-- what code needs of them and of the levels, and the candidates tried.
use Rattle.std.proofs.Common.{◌≡◌, List, ℕ, ◌*◌, ◌^◌, ◌≤◌, length, take, replicate, arith, sym, ◌∙◌}
use lib.IntN.{ℤ}
use Rattle.refusals.specs.Sides.{most_log2}
use Rattle.scan.proofs.Scanned.{area_is}
use Rattle.price.specs.Costs.{costs_of}
use Rattle.weights.proofs.Rooms.{lent}
use Rattle.levels.proofs.Coding.{area_range}
use Rattle.candidates.proofs.Numbers.{early}
use Rattle.candidates.proofs.Given.{levels_long, whole_so, priceable_so, held_so}
use Rattle.candidates.proofs.repair.Goals as goal

module _ (r : List ℤ) (l : ℕ) (long : length r ≡ 2 ^ l * 2 ^ l) (high : l ≤ most_log2) where
  fits : length r ≤ 1024
  fits = omega (arith, long, area_range most_log2 l high)

  part : length (take {A = ℕ} (length r) (replicate 1024 0)) ≡ length r
  part = lent 1024 (length r) fits

pub slice_bounds-room-end : goal.slice_bounds-room-end
slice_bounds-room-end c = let g = c.requires.guardable in fits _ _ g.long g.high

pub slice_bounds-square-end : goal.slice_bounds-square-end
slice_bounds-square-end c = let g = c.requires.guardable in sym (part _ _ g.long g.high)

pub square-scan-requires : goal.square-scan-requires
square-scan-requires c =
    let g = c.requires.guardable in
    part _ _ g.long g.high ∙ g.long ∙ sym (area_is c.args.coding.log2 g.high)

pub read_along-requires-2 : goal.read_along-requires-2
read_along-requires-2 c =
    let a = c.args in
    let g = c.requires.guardable in
    let sides = c.square-scan.ensures in
    let n = levels_long a.residuals.now (costs_of a.costs.now) a.coding a.h a.levels.now a.shown.now g in
    let room = part _ _ g.long g.high in (
      rw (sides.0, sides.1) (n ∙ g.long),
      c.read_along.auto.rows ∙ room ∙ sym n,
      room ∙ sym n,
    )

pub terms_of-requires : goal.terms_of-requires
terms_of-requires c =
    let a = c.args in
    let p = early a.residuals.now (costs_of a.costs.now) a.coding a.h c.requires.guardable.accepts in
    (p.low, p.high, p.qp, p.lambda, p.costs)

pub invariant_of-block : goal.invariant_of-block
invariant_of-block c =
    let a = c.args in
    let scan = c.square-scan in
    record {
      whole =
          whole_so a.residuals.now (costs_of a.costs.now) a.coding a.h _ _ c.requires.guardable _ _ scan.ensures.0
          scan.ensures.1 _ scan.result.scanned _ c.transform_in.ensures _ _ c.read_along.ensures
          c.read_along-2.ensures _ c.terms_of.ensures;
    }

pub try_all-requires-clause-priceable : goal.try_all-requires-clause-priceable
try_all-requires-clause-priceable c =
    let a = c.args in
    let scan = c.square-scan in
    priceable_so a.residuals.now (costs_of a.costs.now) a.coding a.h _ _ c.requires.guardable _ _ scan.ensures.0
    scan.ensures.1 _ scan.result.scanned _ c.transform_in.ensures _ _ c.read_along.ensures
    c.read_along-2.ensures _ c.terms_of.ensures

pub try_all-requires-clause-rooms : goal.try_all-requires-clause-rooms
try_all-requires-clause-rooms c =
    let a = c.args in
    let g = c.requires.guardable in
    record {
      levels = levels_long a.residuals.now (costs_of a.costs.now) a.coding a.h a.levels.now a.shown.now g;
      shown = g.room;
      rows = c.read_along-2.auto.rows ∙ c.read_along.auto.rows ∙ part _ _ g.long g.high;
    }

pub returns : goal.returns
returns c =
    let a = c.args in
    let scan = c.square-scan in
    held_so a.residuals.now (costs_of a.costs.now) a.coding a.h _ _ c.requires.guardable _ _ scan.ensures.0
    scan.ensures.1 _ scan.result.scanned _ c.transform_in.ensures _ _ c.read_along.ensures
    c.read_along-2.ensures _ c.terms_of.ensures c.requires.h_value _ _ c.try_all.ensures
