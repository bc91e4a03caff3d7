-- The level of `butterfly::line8`: half its side is 2^2.
use Rattle.butterfly.proofs.line8.Given as goal

abbrev pub ghost-one_level : goal.ghost-one_level
ghost-one_level a = 2
