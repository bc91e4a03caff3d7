-- Where every coefficient is 0 the block is all 0 already, and has no D.
use mathlib.Core.Path.{refl, sym, ◌∙◌}
use native.Mathlib.Omega.{arith}
use Rattle.coefficients.proofs.Blank.{blank_is_zeros, blank_has_no_d}
use Rattle.quantise.proofs.skip_block.Goals as goal

pub returns-then-top-eq0 : goal.returns-then-top-eq0
returns-then-top-eq0 c =
    let none = sym c.requires.largest ∙ c.if-top-eq0.true in
    record {
      answer = record { count = refl; price = omega (arith, blank_has_no_d c.args.scale c.args.block.now none) };
      buffer = blank_is_zeros c.args.block.now none;
    }
