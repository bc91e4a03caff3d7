-- `trial::put_back` meets its contract: entry by entry, each m fits.
use Rattle.std.proofs.Common.{get_or}
use Rattle.integers.proofs.Fill.{Filled}
use Rattle.trial.specs.Inner.Trial.{top_by}
use Rattle.trial.proofs.put_back.Given as goal

abbrev pub invariant-loop-i : goal.invariant-loop-i
invariant-loop-i l = Filled 0 l.ms (λ j. top_by l.scale (get_or l.places j 0)) l.i
