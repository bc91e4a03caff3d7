-- `coefficients::distortion::small_squares` meets its contract: three sums, none above that of the squared
-- coefficients, and D from them.
use mathlib.Core.Path.{◌≡◌, sym, ap, fun_ext, ◌∙◌}
use mathlib.Core.List.{List}
use Prim.Native.Nat.{ℕ, ◌+◌, ◌*◌, ◌%◌, ◌≤◌, ◌<◌}
use native.Mathlib.Omega.{arith}
use lib.ListN.{length, get_or, drop}
use lib.IntN.{ℤ, pos, nat_abs}
use mir.Syntax.{w16}
use mir.Val.{SFits, to_z, of_z}
use borrow.Author.Rules.{rules}
use Rattle.integers.specs.Sum.{over, on_ℕ}
use Rattle.integers.proofs.Sums.{nats}
use Rattle.integers.proofs.Over.{over_next, over_end}
use Rattle.price.specs.Level.{square}
use Rattle.scaling.specs.declared.scale.Scale.{Scale}
use Rattle.coefficients.specs.Inner.Coefficients.{Within, energy, zero_distortion}
use Rattle.coefficients.proofs.Magnitudes.{magnitude_is}
use Rattle.coefficients.proofs.Uncoding.{zero_distortion_lem}
use Rattle.coefficients.proofs.Small.{rounded_up, crossed, up_square, error_square, crossed_within}
use Rattle.coefficients.proofs.Small.{up_within, by_three_sums}
use Rattle.coefficients.proofs.distortion.small_squares.Goals.{After-from-a}
use Rattle.coefficients.proofs.distortion.small_squares.Goals as goal

-- ---- the sums with one more: what `unsigned_abs` answers of a coefficient, in 15 bits, is its magnitude
module _ (B : List ℤ) (within : Within B 32767) (i : ℕ) (lt : i < length B)
    (fits : SFits w16 (get_or B i (pos 0))) where
  magnitude : (got : ℕ) → got ≡ nat_abs (to_z w16 (of_z w16 (get_or B i (pos 0))))
      → got % 32768 ≡ nat_abs (get_or B i (pos 0))
  magnitude got e =
      omega (arith, within i, magnitude_is (get_or B i (pos 0)) got fits e)

  -- a sum of what h makes of the magnitudes
  one_more : (h : ℕ → ℕ) (sum got : ℕ) → got ≡ nat_abs (to_z w16 (of_z w16 (get_or B i (pos 0))))
      → sum + over on_ℕ (λ z. h (nat_abs z)) (drop i B) ≡ over on_ℕ (λ z. h (nat_abs z)) B
      → sum + h (got % 32768) + over on_ℕ (λ z. h (nat_abs z)) (drop (i + 1) B) ≡ over on_ℕ (λ z. h (nat_abs z)) B
  one_more h sum got a e =
      ap (λ (n : ℕ). sum + h n + over on_ℕ (λ z. h (nat_abs z)) (drop (i + 1) B)) (magnitude got a)
      ∙ over_next nats (λ z. h (nat_abs z)) B i (pos 0) sum lt
      ∙ e

-- ---- what is left of the sums once all are added: r is the rest, which 15 bits hold
module _ (g : Scale) (B : List ℤ) (i : ℕ) (end : length B ≤ i) where
  abbrev r : ℕ
  r = g.rest % 32768

  r_few : r ≤ 32767
  r_few = omega arith

  r_is : r ≡ g.rest
  r_is = omega (arith, g.sound.wide_rest)

  whole : (f : ℤ → ℕ) (sum : ℕ) → sum + over on_ℕ f (drop i B) ≡ over on_ℕ f B → sum ≡ over on_ℕ f B
  whole f sum e = sym (over_end nats f B i sum end) ∙ e

  distortion_is : over on_ℕ (error_square g.front r) B ≡ over on_ℕ (zero_distortion g) B
  distortion_is =
      ap (λ (n : ℕ). over on_ℕ (error_square g.front n) B) r_is
      ∙ ap (λ (f : ℤ → ℕ). over on_ℕ f B) (fun_ext (zero_distortion_lem g))

  sums_are : (aa ay yy : ℕ)
      → aa + over on_ℕ energy (drop i B) ≡ over on_ℕ energy B
      → ay + over on_ℕ (crossed r) (drop i B) ≡ over on_ℕ (crossed r) B
      → yy + over on_ℕ (up_square r) (drop i B) ≡ over on_ℕ (up_square r) B
      → over on_ℕ (zero_distortion g) B + 2 * g.front * ay ≡ g.front * g.front * aa + yy
  sums_are aa ay yy ea ec eu =
      ap (λ (n : ℕ). n + 2 * g.front * ay) (sym distortion_is)
      ∙ ap (λ (n : ℕ). over on_ℕ (error_square g.front r) B + 2 * g.front * n) (whole (crossed r) ay ec)
      ∙ by_three_sums g.front r g.sound.some_front r_few B
      ∙ ap (λ (n : ℕ). g.front * g.front * n + over on_ℕ (up_square r) B) (sym (whole energy aa ea))
      ∙ ap (λ (n : ℕ). g.front * g.front * aa + n) (sym (whole (up_square r) yy eu))

-- ---- the goals
-- a sum of what h makes of the magnitudes, with the coefficient of this turn
next : (c : After-from-a) (h : ℕ → ℕ) (sum : ℕ)
    → (let B = c.args.block.now in let i = c.loop-c.c-index in
    sum + over on_ℕ (λ z. h (nat_abs z)) (drop i B) ≡ over on_ℕ (λ z. h (nat_abs z)) B
    → sum + h (c.from-a.result % 32768) + over on_ℕ (λ z. h (nat_abs z)) (drop (i + 1) B)
    ≡ over on_ℕ (λ z. h (nat_abs z)) B)
next c h sum =
    let B = c.args.block.now in
    let f : SFits w16 (get_or B c.loop-c.c-index (pos 0)) = search rules in
    one_more B c.requires.0 c.loop-c.c-index c.loop-c-test.true f h sum _ (c.from-a.ensures ∙ c.unsigned_abs.ensures.value)

pub overflow_add-ay : goal.overflow_add-ay
overflow_add-ay c =
    let l = c.loop-c in
    let r = c.args.scale.rest % 32768 in
    let more = next c (λ a. a * rounded_up r a) l.ay l.invariant.1 in
    record { fits = omega (arith, more, crossed_within r (omega arith) c.args.block.now, c.requires.1) }

pub overflow_add-yy : goal.overflow_add-yy
overflow_add-yy c =
    let l = c.loop-c in
    let r = c.args.scale.rest % 32768 in
    let more = next c (λ a. square (rounded_up r a)) l.yy l.invariant.2 in
    record { fits = omega (arith, more, up_within r (omega arith) c.args.block.now, c.requires.1) }

pub loop-c-preserved : goal.loop-c-preserved
loop-c-preserved c =
    let l = c.loop-c in
    let r = c.args.scale.rest % 32768 in (
      next c square l.aa l.invariant.0,
      next c (λ a. a * rounded_up r a) l.ay l.invariant.1,
      next c (λ a. square (rounded_up r a)) l.yy l.invariant.2,
    )

pub overflow_sub-result : goal.overflow_sub-result
overflow_sub-result c =
    let l = c.loop-c in
    let sums = sums_are c.args.scale c.args.block.now l.c-index c.loop-c-test.false l.aa l.ay l.yy l.invariant.0
    l.invariant.1 l.invariant.2 in
    rw (c.from-front.ensures, c.from.ensures, c.from-2.ensures, c.from-3.ensures) (omega (arith, sums))

pub returns : goal.returns
returns c =
    let l = c.loop-c in
    let sums = sums_are c.args.scale c.args.block.now l.c-index c.loop-c-test.false l.aa l.ay l.yy l.invariant.0
    l.invariant.1 l.invariant.2 in
    rw (c.from-front.ensures, c.from.ensures, c.from-2.ensures, c.from-3.ensures) (omega (arith, sums))
