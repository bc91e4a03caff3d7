-- The level of `butterfly::line16`: half its side is 2^3.
use Rattle.butterfly.proofs.line16.Given as goal

abbrev pub ghost-one_level : goal.ghost-one_level
ghost-one_level a = 3
