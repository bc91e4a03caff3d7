-- `tables::scales::error_scale` meets its contract: antt computes that the listed numbers are the definition's.
use Rattle.tables.proofs.ErrorScale.{error_scales, error_scale_at}
use Rattle.tables.proofs.scales.error_scale.Goals as goal

pub returns : goal.returns
unfolding error_scales
returns c = error_scale_at c.args.side.log2 c.args.qp c.args.side.in_range.0 c.args.side.in_range.1
