-- A line that is too long is no request.
use Rattle.protocol.proofs.Retold.{malformed_told, long_told}
use Rattle.protocol.proofs.answer.Goals as goal

pub returns-then-line-gt-LONGEST : goal.returns-then-line-gt-LONGEST
returns-then-line-gt-LONGEST c =
    long_told _ _ _ _ c.if-line-gt-LONGEST.true c.put_malformed.ensures

pub returns-in-None : goal.returns-in-None
returns-in-None c =
    malformed_told _ _ _ _ _ c.in-None.ensures c.answer_asked.auto.out c.put_malformed-in-None.ensures
