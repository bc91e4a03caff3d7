-- The level of `butterfly::line32`: half its side is 2^4.
use Rattle.butterfly.proofs.line32.Given as goal

abbrev pub ghost-one_level : goal.ghost-one_level
ghost-one_level a = 4
