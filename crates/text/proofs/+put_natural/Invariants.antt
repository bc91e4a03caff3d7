-- It calls itself with a tenth of the number.
use Rattle.text.proofs.+put_natural.Given as goal

abbrev pub decreases-put_natural : goal.decreases-put_natural
decreases-put_natural l = l.value
