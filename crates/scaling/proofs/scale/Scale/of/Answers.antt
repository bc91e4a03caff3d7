-- `scaling::scale::Scale::of` meets its contract: the numbers lie in the ranges of proofs/Scaling.antt.
use mathlib.Core.Path.{◌≡◌, refl, sym, ap, ◌∙◌}
use Prim.Native.Nat.{ℕ, ◌-◌, ◌*◌, ◌%◌, ◌^◌}
use native.Mathlib.Omega.{arith}
use Rattle.tables.specs.Scales.{forward, scale_of, error_scale}
use Rattle.price.specs.Level.{shift_of}
use Rattle.tables.proofs.Range.{scale_range}
use Rattle.scaling.proofs.Scaling.{bit, shift_range, front_range, error_range, half_range}
use Rattle.scaling.proofs.Scaling.{least_range, forward_usable, scale_sound}
use Rattle.scaling.proofs.scale.Scale.of.Goals as goal

-- q·E and front·2^20, by what the tables say
product : (l qp q e : ℕ) → q ≡ scale_of forward qp → e ≡ error_scale l (scale_of forward qp)
    → q * e ≡ scale_of forward qp * error_scale l (scale_of forward qp)
product l qp q e i j = rw (i, j)

pub overflow_sub-rest : goal.overflow_sub-rest
overflow_sub-rest c =
    let x = error_range forward forward_usable c.args.side.log2 c.args.qp.qp c.args.side.in_range.1 in
    omega (
      arith,
      product _ _ _ _ c.scale-q.ensures c.error_scale-error.ensures,
      x.1,
      front_range c.args.side.log2 c.args.side.in_range.1,
    )

pub overflow_cast-result-2 : goal.overflow_cast-result-2
overflow_cast-result-2 c =
    let x = error_range forward forward_usable c.args.side.log2 c.args.qp.qp c.args.side.in_range.1 in
    record {
      fits = omega (
        arith,
        product _ _ _ _ c.scale-q.ensures c.error_scale-error.ensures,
        x.2,
        scale_range c.args.qp.qp,
        front_range c.args.side.log2 c.args.side.in_range.1,
      );
    }

pub overflow_cast-result-3 : goal.overflow_cast-result-3
unfolding shift_of
overflow_cast-result-3 c =
    let h = half_range c.args.side.log2 c.args.qp.qp c.args.side.in_range.0 c.args.side.in_range.1 c.args.qp.in_range in
    let q = scale_range c.args.qp.qp in
    record {
      fits = omega (
        arith,
        c.scale-q.ensures,
        least_range (1 * 2 ^ (shift_of c.args.side.log2 c.args.qp.qp - 1) % 18446744073709551616)
            c.scale-q.result (omega (arith, c.scale-q.ensures)) (omega arith),
      );
    }

pub invariant_of-result : goal.invariant_of-result
unfolding shift_of
invariant_of-result c =
    let l = c.args.side.log2 in
    let u = shift_range l c.args.qp.qp c.args.side.in_range.0 c.args.side.in_range.1 c.args.qp.in_range in
    let sound = scale_sound forward forward_usable l c.args.qp.qp c.args.side.in_range.0 c.args.side.in_range.1 c.args.qp.in_range _ _ _ _ _ _ _ _
    c.scale-q.ensures refl (bit _ (omega arith)) (bit _ (omega arith))
    (c.error_scale-error.ensures ∙ ap (error_scale l) (sym c.scale-q.ensures)) (bit _ (omega arith)) refl refl in
    record { sound = sound }

pub nonzero_div-least : goal.nonzero_div-least
nonzero_div-least c = omega (arith, scale_range c.args.qp.qp, c.scale-q.ensures)

pub returns : goal.returns
unfolding shift_of
returns c =
    let error = c.error_scale-error.ensures ∙ ap (error_scale c.args.side.log2) (sym c.scale-q.ensures) in
    record { q = c.scale-q.ensures; shift = refl; error = error }
