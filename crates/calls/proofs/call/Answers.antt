-- `calls::call` meets its contract: the call of each verb, by the fields in front.
use Rattle.verbs.specs.declared.Verb.TheVariants.{Transform, Quantise, SubBlock, ScaleBack, Inverse, Guarded, Measure}
use Rattle.verbs.specs.declared.Verb.TheVariants.{Write, Read}
use Rattle.calls.specs.Calls.{answered}
use Rattle.calls.proofs.Fields.{by_verb}
use Rattle.calls.proofs.call.Goals as goal

pub returns-in-Transform : goal.returns-in-Transform
unfolding answered
returns-in-Transform c = by_verb _ _ Transform c.in-Transform.is _ _ _ _ _ _ c.call_transform.ensures

pub returns-in-Quantise : goal.returns-in-Quantise
unfolding answered
returns-in-Quantise c = by_verb _ _ Quantise c.in-Quantise.is _ _ _ _ _ _ c.call_quantise.ensures

pub returns-in-SubBlock : goal.returns-in-SubBlock
unfolding answered
returns-in-SubBlock c = by_verb _ _ SubBlock c.in-SubBlock.is _ _ _ _ _ _ c.call_sub_block.ensures

pub returns-in-ScaleBack : goal.returns-in-ScaleBack
unfolding answered
returns-in-ScaleBack c = by_verb _ _ ScaleBack c.in-ScaleBack.is _ _ _ _ _ _ c.call_scale_back.ensures

pub returns-in-Inverse : goal.returns-in-Inverse
unfolding answered
returns-in-Inverse c = by_verb _ _ Inverse c.in-Inverse.is _ _ _ _ _ _ c.call_inverse.ensures

pub returns-in-Guarded : goal.returns-in-Guarded
unfolding answered
returns-in-Guarded c = by_verb _ _ Guarded c.in-Guarded.is _ _ _ _ _ _ c.call_guarded.ensures

pub returns-in-Measure : goal.returns-in-Measure
unfolding answered
returns-in-Measure c = by_verb _ _ Measure c.in-Measure.is _ _ _ _ _ _ c.call_measure.ensures

pub returns-in-Write : goal.returns-in-Write
unfolding answered
returns-in-Write c = by_verb _ _ Write c.in-Write.is _ _ _ _ _ _ c.call_write.ensures

pub returns-in-Read : goal.returns-in-Read
unfolding answered
returns-in-Read c = by_verb _ _ Read c.in-Read.is _ _ _ _ _ _ c.call_read.ensures
