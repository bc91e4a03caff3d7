-- `admission::test_buffer` meets its contract: costs and length are tested, and then the residuals of what is run.
use mathlib.Core.Path.{sym}
use Rattle.std.proofs.Common.{rules}
use Rattle.integers.specs.Tests.{some}
use Rattle.transform.specs.Call.{wild}
use Rattle.price.specs.Costs.{costs_of}
use Rattle.admission.specs.Inner.Tested.{residuals}
use Rattle.admission.proofs.Groups.{costs_refused, length_refused, residuals_left}
use Rattle.admission.proofs.Room.{short, long}
use Rattle.admission.proofs.test_buffer.Goals as goal

pub returns-then-costs_refused : goal.returns-then-costs_refused
returns-then-costs_refused c =
    rw c.from.ensures (costs_refused c.args.buffer.now (costs_of c.args.costs.now) c.args.q (sym c.if-costs_refused.ensures))

pub returns-then-buffer-end : goal.returns-then-buffer-end
returns-then-buffer-end c =
    rw c.from-then-buffer-end.ensures
    (length_refused c.args.buffer.now (costs_of c.args.costs.now) c.args.q _ c.of-stretches.ensures (sym c.if-costs_refused.ensures)
    (short _ _ _ _ c.of-stretches.ensures c.end.ensures c.if-buffer-end.true))

pub returns : goal.returns
returns c =
    residuals_left c.args.buffer.now (costs_of c.args.costs.now) c.args.q _ c.of-stretches.ensures (sym c.if-costs_refused.ensures)
    (long _ _ _ _ c.of-stretches.ensures c.end.ensures c.if-buffer-end.false)
    (c.refuse_first.ensures (λ k. some wild (residuals k c.of-stretches.result.luma c.args.buffer.now)) (λ k b h. search rules))
