-- The number is the next word.
use Rattle.std.proofs.Common.{sym}
use Rattle.numerals.proofs.Reading.{within}
use Rattle.requests.proofs.request.read_count.Goals as goal
use Rattle.requests.specs.Request.{count_of}

pub returns-in_err-take_word-clause-value : goal.returns-in_err-take_word-clause-value
unfolding count_of
returns-in_err-take_word-clause-value c = rw (c.from_residual.ensures, c.in_err-take_word.ensures)

pub returns-in_err-n-clause-value : goal.returns-in_err-n-clause-value
unfolding count_of
returns-in_err-n-clause-value c =
    rw (c.from_residual-in_err-n.ensures, c.in_ok-take_word.ensures, ← c.in_err-n.ensures)

pub returns-clause-value : goal.returns-clause-value
unfolding count_of
returns-clause-value c = rw (c.in_ok-take_word.ensures, ← c.in_ok-n.ensures)

pub returns-clause-few : goal.returns-clause-few
returns-clause-few c = within _ _ _ (sym c.in_ok-n.ensures)
