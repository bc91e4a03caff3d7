-- `turns::code_tested` meets its contract: the room is long enough for every accepted side.
use mathlib.Core.Path.{sym, ◌∙◌}
use native.Mathlib.Omega.{arith}
use lib.Seq.{length-take-le}
use Rattle.price.specs.Costs.{costs_of}
use Rattle.turns.proofs.Passed.{log2_fine, room_of, front_long, all_ready}
use Rattle.turns.proofs.Called.{three_coded}
use Rattle.turns.proofs.lent.code_tested.Goals as goal

pub of-stretches-requires : goal.of-stretches-requires
of-stretches-requires g c =
    log2_fine c.args.buffer.now (costs_of c.args.costs.now) c.args.q c.requires.early.settings

pub slice_bounds-in_room-end-2 : goal.slice_bounds-in_room-end-2
slice_bounds-in_room-end-2 g c =
    room_of c.args.buffer.now (costs_of c.args.costs.now) c.args.q c.requires.early _ c.of-stretches.ensures _
    c.end-end.ensures

pub slice_bounds-in_room-end-3 : goal.slice_bounds-in_room-end-3
slice_bounds-in_room-end-3 g c =
    sym (front_long c.args.buffer.now (costs_of c.args.costs.now) c.args.q c.requires.early _ c.of-stretches.ensures _
    c.end-end.ensures)

pub in_room-requires-clause-ready : goal.in_room-requires-clause-ready
in_room-requires-clause-ready g c =
    all_ready c.args.buffer.now (costs_of c.args.costs.now) c.args.q c.requires.early _ c.of-stretches.ensures _
    c.end-end.ensures

pub in_room-requires-clause-given : goal.in_room-requires-clause-given
in_room-requires-clause-given g c =
    let long = front_long c.args.buffer.now (costs_of c.args.costs.now) c.args.q c.requires.early _ c.of-stretches.ensures _
    c.end-end.ensures in
    (length-take-le c.end-end.result _ (omega (arith, c.end-end.ensures, c.of-stretches.result.small)) ∙ sym long, c.requires.wide)

pub returns : goal.returns
returns g c =
    let a = c.args in
    let t = costs_of a.costs.now in
    three_coded (g.C.Coder.answer a.coder.now t a.q) (g.C.Coder.left a.coder.now t a.q) a.buffer.now t a.q _ _
    c.of-stretches.ensures _ c.end-end.ensures c.requires.early _ c.in_room.ensures.parted c.in_room.ensures.kept
