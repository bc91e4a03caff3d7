-- `tq::answer_all`: what is left of the input stands in the buffer at each turn.
use mathlib.Core.Path.{◌≡◌}
use lib.ListN.{length}
use Rattle.input.specs.Lines.{Within}
use Rattle.tq.proofs.answer_all.Given as goal

abbrev pub invariant-loop : goal.invariant-loop
invariant-loop g l = Within l.c l.buf × (length l.buf ≡ length l.initial.buf)
