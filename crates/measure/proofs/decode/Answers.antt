-- `measure::decode` meets its contract: the definition's two steps, on a copy of the levels.
use mathlib.Core.Path.{sym, ap, ◌∙◌}
use mathlib.Core.List.{List, map}
use Prim.Native.Nat.{◌*◌, ◌^◌}
use native.Mathlib.Omega.{arith}
use lib.Seq.{take_all}
use lib.IntN.{ℤ}
use Rattle.tables.specs.Scales.{back}
use Rattle.decoding.specs.Scaling.{scaled_back, coefficients_back}
use Rattle.decoding.specs.Inverse.{residuals}
use Rattle.heights.specs.Extremes.{decoded}
use Rattle.measure.proofs.decode.Goals as goal

pub returns : goal.returns
unfolding decoded coefficients_back
returns c =
    let l = c.args.side.log2 in
    let f = scaled_back back l c.args.qp.qp in
    let levels = c.args.levels.now in
    c.restore.ensures
    ∙ ap (λ (x : List ℤ). residuals x l l)
    (c.rescale.ensures
    ∙ ap (map f)
    (c.copy.ensures ∙ sym (take_all (2 ^ l * 2 ^ l) levels (omega (arith, c.requires.levels_len.0)))))
