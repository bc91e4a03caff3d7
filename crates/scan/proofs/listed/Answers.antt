-- The listed numbers of each side are the diagonal rule's, by one computed test for a side: the lookup rests on them.
use Rattle.std.proofs.Common.{◌≡◌, sym, ap, arith}
use Rattle.scan.specs.Scan.{square_scan}
use Rattle.scan.proofs.listed.Goals as goal

pub returns-in-1 : goal.returns-in-1
unfolding square_scan
returns-in-1 c = ap square_scan (sym c.in-1.is)

pub returns-in-2 : goal.returns-in-2
unfolding square_scan
returns-in-2 c = ap square_scan (sym c.in-2.is)

pub returns-in-3 : goal.returns-in-3
unfolding square_scan
returns-in-3 c = ap square_scan (sym c.in-3.is)

pub returns-in-4 : goal.returns-in-4
unfolding square_scan
returns-in-4 c = ap square_scan (sym c.in-4.is)

pub returns-in_default : goal.returns-in_default
unfolding square_scan
returns-in_default c = let is_5 : 5 ≡ c.args.side.log2 = omega arith in ap square_scan is_5
