-- `measure::apart` meets its contract: the loop holds the two extremes of the places that it passed.
use mathlib.Core.Path.{◌≡◌}
use lib.ListN.{length}
use Rattle.heights.specs.Extremes.{darker, lighter}
use Rattle.measure.proofs.apart.Given as goal

abbrev pub invariant-loop-r : goal.invariant-loop-r
invariant-loop-r l =
    (l.darker ≡ darker (length l.yielded) l.residuals l.shown)
    × (l.lighter ≡ lighter (length l.yielded) l.residuals l.shown)
