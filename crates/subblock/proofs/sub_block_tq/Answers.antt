-- `subblock::sub_block_tq` meets its contract: what is coded of the three in their turns is what the definition says.
use Rattle.price.specs.Costs.{costs_of}
use Rattle.subblock.proofs.Whole.{is_sub_block}
use Rattle.subblock.proofs.sub_block_tq.Goals as goal

pub returns : goal.returns
returns c =
    let ends = is_sub_block c.args.buffer.now (costs_of c.args.costs.now) c.args.q _ _ c.code_components_with_room.ensures in
    record { answer = ends.0; buffer = ends.1 }
