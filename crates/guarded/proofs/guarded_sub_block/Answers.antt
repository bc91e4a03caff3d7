-- `guarded::guarded_sub_block` meets its contract: what is guarded of the three in their turns is what the definition
-- says.
use Rattle.price.specs.Costs.{costs_of}
use Rattle.guarded.proofs.Whole.{is_guarded}
use Rattle.guarded.proofs.guarded_sub_block.Goals as goal

pub returns : goal.returns
returns c =
    let ends = is_guarded c.args.buffer.now (costs_of c.args.costs.now) c.args.q c.args.h _ _ c.code_components_with_room.ensures in
    record { answer = ends.0; buffer = ends.1 }
