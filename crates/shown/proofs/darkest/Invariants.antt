-- `shown::darkest` asks for the worst by the distance that its closure works out.
use Rattle.shown.specs.Shown.{darker_of}
use Rattle.shown.proofs.darkest.Given as goal

abbrev pub ghost-worst_by : goal.ghost-worst_by
ghost-worst_by a = darker_of
