-- Back along the scan, then forth where a block is strictly cheaper.
use Rattle.weights.specs.Inner.Chosen.{rule_of}
use Rattle.passes.proofs.Reading.{top_of_0}
use Rattle.search.proofs.Finding.{found_coded, found_empty}
use Rattle.search.proofs.find_in.Goals as goal

pub returns-then-coded-empty : goal.returns-then-coded-empty
returns-then-coded-empty c =
    let k = c.args.kept in
    let back = c.look_back-ahead.ensures in
    found_coded _ _ back.0 c.if-coded-empty.true _
    (c.read_off.ensures (rule_of k) k.weights.scale k.magnitudes.now (top_of_0 k.weights.prices k.weights.scale)
    c.last_place-end.ensures back.1)

pub returns : goal.returns
returns c = found_empty _ _ c.look_back-ahead.ensures.0 c.if-coded-empty.false _ c.requires.0
