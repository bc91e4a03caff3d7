-- `columns::store` meets its contract: the first k entries stand in their places.
use Rattle.std.proofs.Common.{get_or}
use Rattle.columns.specs.Inner.Placed.{PlacedOf}
use Rattle.columns.proofs.store.Given as goal

abbrev pub invariant-loop-k : goal.invariant-loop-k
invariant-loop-k g l = (d : _) → PlacedOf d l.width l.c l.k (λ i. get_or l.b i d) l.initial.dst l.dst
