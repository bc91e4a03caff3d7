-- The word ends at the first space, or at the end of what is left.
use Rattle.std.proofs.Common.{ap, ◌∙◌}
use Rattle.requests.specs.Inner.Left.{words_in}
use Rattle.requests.proofs.Spaces.{at_space, no_space}
use Rattle.requests.proofs.words.Words.take_word.Goals as goal

pub returns-in-Some : goal.returns-in-Some
returns-in-Some c = ap words_in c.in_ok-rest.was ∙ at_space _ _ c.in-Some.ensures

pub returns-in-None : goal.returns-in-None
returns-in-None c = ap words_in c.in_ok-rest.was ∙ no_space _ c.in-None.ensures
