-- The level of `unfold::back4`: half its side is 2^1.
use Rattle.unfold.proofs.back4.Given as goal

abbrev pub ghost-halves : goal.ghost-halves
ghost-halves a = 1
