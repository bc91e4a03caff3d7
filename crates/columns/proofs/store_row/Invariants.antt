-- `columns::store_row` meets its contract: the first k coefficients stand in their places.
use mathlib.Core.Path.{◌≡◌}
use Rattle.integers.specs.Sum.{at}
use Rattle.butterfly.specs.Inner.Lines.{place}
use Rattle.columns.specs.Inner.Placed.{Placed}
use Rattle.columns.proofs.Places.{table}
use Rattle.columns.proofs.store_row.Given as goal

abbrev pub invariant-loop-k : goal.invariant-loop-k
invariant-loop-k l =
    (l.places ≡ table) × Placed l.width l.c l.k (λ i. at l.row (place l.fn.side.log2 i)) l.initial.dst l.dst
