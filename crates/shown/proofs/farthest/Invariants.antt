-- `shown::farthest` asks for the worst by the distance that its closure works out.
use Rattle.shown.specs.Shown.{apart_of}
use Rattle.shown.proofs.farthest.Given as goal

abbrev pub ghost-worst_by : goal.ghost-worst_by
ghost-worst_by a = apart_of
