-- The level of `unfold::back8`: half its side is 2^2.
use Rattle.unfold.proofs.back8.Given as goal

abbrev pub ghost-halves : goal.ghost-halves
ghost-halves a = 2
