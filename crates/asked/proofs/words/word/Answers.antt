-- `asked::word` meets its contract: a number that is read is not above its limit.
use Rattle.std.proofs.Common.{sym}
use Rattle.numerals.proofs.Reading.{within}
use Rattle.asked.proofs.words.word.Goals as goal

pub returns-in-Some : goal.returns-in-Some
returns-in-Some g c = within _ _ _ (sym c.in-Some.ensures)
