-- `scaling::scale::Scale::squared` meets its contract: where the two ways meet, one division serves both.
use mathlib.Core.Logic.{inl, inr}
use native.Mathlib.Omega.{arith}
use Rattle.scaling.proofs.Squaring.{Gap, either}
use Rattle.scaling.proofs.scale.Scale.squared.Goals.{then-s-l, else-s-l}
use Rattle.scaling.proofs.scale.Scale.squared.Goals as goal

pub returns : goal.returns
returns c =
    let way : Gap c.args.self c.args.l c.args.a c.requires c.abs_diff.result c.if-s-l.up = elim c.if-s-l.branch [
      | then-s-l w ↦ inl (omega arith, omega (arith, c.abs_diff.ensures), omega arith)
      | else-s-l w ↦ inr (omega arith, omega (arith, c.abs_diff.ensures), omega arith)
    ] in
    either c.args.self c.args.l c.args.a c.requires _ _ way
