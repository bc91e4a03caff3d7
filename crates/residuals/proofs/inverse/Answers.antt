-- `residuals::inverse` meets its contract: behind its faults, the inverse of the front of the buffer.
use mathlib.Core.Path.{◌∙◌}
use Rattle.std.proofs.Common.{arith}
use Rattle.std.proofs.lemmas.Bool.Decides.{nat_tests}
use Rattle.decoding.specs.Call.{inverse_verdict, inverse_buffer}
use Rattle.residuals.proofs.Front.{residuals_front}
use Rattle.residuals.proofs.inverse.Goals as goal

pub returns-clause-buffer : goal.returns-clause-buffer
unfolding inverse_buffer inverse_verdict
returns-clause-buffer c =
    let a = c.args in
    let w = c.length in
    let h = c.length-2 in
    let e = c.restore.ensures ∙ residuals_front a.block.now w.result h.result _ _ w.ensures.0 h.ensures.0 in
    grind (arith, nat_tests)
