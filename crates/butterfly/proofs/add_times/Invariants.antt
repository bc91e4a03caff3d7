-- `butterfly::add_times` meets its contract: the entries before k have been added to, those from k on are as
-- they were.
use Rattle.std.proofs.Common.{◌≡◌, ℕ, ◌≤◌, map}
use lib.IntN.{pos, ◌+ℤ◌, ◌*ℤ◌}
use Rattle.integers.specs.Sum.{at}
use Rattle.integers.proofs.Fill.{Filled}
use Rattle.butterfly.proofs.add_times.Given as goal

abbrev pub invariant-loop-k : goal.invariant-loop-k
invariant-loop-k g l =
    Filled (pos 0) l.b (λ i. at l.initial.b i +ℤ at (map g.T.Number.value l.t) i *ℤ l.z) l.k
    × ((i : ℕ) → l.k ≤ i → at l.b i ≡ at l.initial.b i)
