-- The level of `butterfly::line4`: half its side is 2^1.
use Rattle.butterfly.proofs.line4.Given as goal

abbrev pub ghost-one_level : goal.ghost-one_level
ghost-one_level a = 1
