-- The walk from its first totals, then its cut.
use Rattle.walk.proofs.Cutting.{chosen_by}
use Rattle.walk.proofs.choose_levels.Goals as goal

pub returns : goal.returns
returns c = chosen_by _ _ _ _ c.walk_places-walked.ensures c.cut_behind.ensures
