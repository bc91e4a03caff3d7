-- `butterfly::odd_half` meets its contract: before the turn n each output has gained n products.
use Rattle.std.proofs.Common.{◌≡◌, ℕ, ◌<◌, length, map}
use Rattle.integers.specs.Sum.{at}
use Rattle.butterfly.specs.Inner.Lines.{gained}
use Rattle.butterfly.proofs.odd_half.Given as goal

abbrev pub invariant-loop-n : goal.invariant-loop-n
invariant-loop-n g l = (k : ℕ) → k < length l.initial.b
    → at l.b k ≡ gained (map g.T.Number.value l.t) (map g.T.Number.value l.o) l.n k
