-- The two stages together are the double sum; how large the sums of either stage and the coefficients can be; and when
-- each place holds its coefficient, the block is the list that the definition says.
use mathlib.Core.Path.{◌≡◌, sym, ◌∙◌, ap, subst}
use mathlib.Core.List.{List}
use Prim.Native.Nat.{ℕ, ◌+◌, ◌*◌, ◌/◌, ◌%◌, ◌^◌, ◌<◌, ◌≤◌}
use native.Mathlib.Nat.{mul_comm, mul_assoc}
use native.Mathlib.Omega.{arith}
use lib.Pow.{pow_pos, pow_mono, pow-add}
use lib.ListN.{length}
use lib.IntN.{ℤ, pos, nat_abs, ◌*ℤ◌}
use Rattle.integers.specs.Sum.{on_ℤ, at}
use Rattle.integers.specs.Floor.{rounded}
use Rattle.integers.specs.Tests.{listed}
use Rattle.integers.proofs.Sums.{sum_ext}
use Rattle.integers.proofs.Floor.{rounded_bound}
use Rattle.integers.proofs.Grid.{inside, row_of, column_of_lem, row_inside, column_inside, place_is}
use Rattle.integers.proofs.Tests.{listed_at, listed_length}
use Rattle.integers.proofs.Fill.{filled_all}
use Rattle.refusals.specs.Sides.{most_log2}
use Rattle.tables.specs.Matrix.{matrix}
use Rattle.transform.specs.Coefficients.{product, coefficient, coefficients}
use Rattle.butterfly.specs.Inner.Lines.{Room}
use Rattle.stages.specs.Inner.Stages.{stage_at, Staged}
use Rattle.halves.specs.Inner.Halves.{half}
use Rattle.butterfly.proofs.Bounds.{row_bound}
use Rattle.stages.proofs.Product.{two_stages}
use Rattle.halves.proofs.Halves.{half_bound, half_rounded}

-- the shift takes away 128 times the block's places
shift_is : (lw lh : ℕ) → 2 ^ (7 + lw + lh) ≡ 128 * (2 ^ lw * 2 ^ lh)
shift_is lw lh =
    pow-add 2 (7 + lw) lh ∙ ap (λ (n : ℕ). n * 2 ^ lh) (pow-add 2 7 lw) ∙ mul_assoc 128 (2 ^ lw) (2 ^ lh)

-- the count of a block of 32 by 32
pub largest : (n lw lh : ℕ) → n ≡ 2 ^ lw * 2 ^ lh → lw + lh ≡ 10 → n ≡ 1024
largest n lw lh e t = e ∙ sym (pow-add 2 lw lh) ∙ ap (λ (k : ℕ). 2 ^ k) t

-- halves are rounded by one bit less
module _ (lw lh : ℕ) (t : lw + lh ≡ 10) where
  shift_17 : 7 + lw + lh ≡ 17
  shift_17 = omega arith

  pub half_same : (z : ℤ) → rounded (half z) 16 ≡ rounded z (7 + lw + lh)
  half_same z = half_rounded z ∙ ap (λ (s : ℕ). rounded z s) (sym shift_17)

  pub half_less : (z : ℤ) → nat_abs z ≤ 32736 * 2 ^ (7 + lw + lh) → nat_abs (half z) ≤ 32736 * 2 ^ 16
  half_less z h = half_bound z (32736 * 2 ^ 16) (subst (λ (s : ℕ). nat_abs z ≤ 32736 * 2 ^ s) shift_17 h)

-- a block of accepted residuals
module _ (lw lh : ℕ) (hw : lw ≤ most_log2) (hh : lh ≤ most_log2) (r : List ℤ) (lr : length r ≡ 2 ^ lw * 2 ^ lh)
    (small : (i : ℕ) → i < length r → nat_abs (at r i) ≤ 1023) where
  row_small : (y x : ℕ) → y < 2 ^ lh → x < 2 ^ lw → nat_abs (at r (y * 2 ^ lw + x)) ≤ 1023
  row_small y x hy hx =
      small (y * 2 ^ lw + x) (omega (arith, inside (2 ^ lw) y x hx (2 ^ lh) hy, mul_comm (2 ^ lw) (2 ^ lh)))

  -- the sums of the first stage, which isn't rounded
  pub first_stage_bound : (y u : ℕ) → y < 2 ^ lh → u < 2 ^ lw
      → nat_abs (stage_at matrix (2 ^ lw) r y u) ≤ 65472 * 2 ^ lw
  unfolding stage_at
  first_stage_bound y u hy hu =
      omega (
        arith,
        row_bound lw (omega arith) (λ x. at r (y * 2 ^ lw + x)) 1023 (λ x hx. row_small y x hy hx) u hu,
        mul_assoc 64 (2 ^ lw) 1023,
        mul_comm (2 ^ lw) 1023,
      )

  -- the widened block a
  module _ (a : List ℤ) (la : length a ≡ length r) (ea : (i : ℕ) → i < length r → at a i ≡ at r i) where
    pub widened_room : Room lw a
    widened_room =
        record {
          most = 1023;
          each = λ i hi. omega (arith, ap nat_abs (ea i (omega arith)), small i (omega arith));
          room = omega (arith, pow_mono {i = lw} {j = 5} hw);
        }

    pub widened_stage : (lines : ℕ) (b : List ℤ) → lines ≡ 2 ^ lh → Staged matrix (λ z. z) lw lines a b lines
        → Staged matrix (λ z. z) lw (2 ^ lh) r b (2 ^ lh)
    unfolding stage_at
    widened_stage lines b e sb y u hy hu =
        subst (λ (h : ℕ). Staged matrix (λ z. z) lw h a b h) e sb y u hy hu
        ∙ sum_ext on_ℤ (2 ^ lw) (λ x. matrix (2 ^ lw) u x *ℤ at a (y * 2 ^ lw + x))
        (λ x. matrix (2 ^ lw) u x *ℤ at r (y * 2 ^ lw + x))
        (λ x hx.
        ap (λ (z : ℤ). matrix (2 ^ lw) u x *ℤ z)
        (ea (y * 2 ^ lw + x) (omega (arith, inside (2 ^ lw) y x hx (2 ^ lh) hy, mul_comm (2 ^ lw) (2 ^ lh)))))

  -- b holds them, each line down its column
  module _ (b : List ℤ) (sb : Staged matrix (λ z. z) lw (2 ^ lh) r b (2 ^ lh)) where
    pub first_within : (i : ℕ) → i < 2 ^ lw * 2 ^ lh → nat_abs (at b i) ≤ 65472 * 2 ^ lw
    first_within i hi =
        let u = i / 2 ^ lh in
        let y = i % 2 ^ lh in
        let hu : u < 2 ^ lw = row_inside (2 ^ lh) (2 ^ lw) i (pow_pos lh) hi in
        let hy : y < 2 ^ lh = column_inside (2 ^ lh) (2 ^ lw) i (pow_pos lh) hi in
        subst (λ (k : ℕ). nat_abs (at b k) ≤ 65472 * 2 ^ lw) (place_is (2 ^ lh) (2 ^ lw) i (pow_pos lh) hi)
        (subst (λ (z : ℤ). nat_abs z ≤ 65472 * 2 ^ lw) (sym (sb y u hy hu)) (first_stage_bound y u hy hu))

    -- the second stage on them is the double sum
    pub stages_are_product : (u v : ℕ) → u < 2 ^ lw → stage_at matrix (2 ^ lh) b u v ≡ product r (2 ^ lw) (2 ^ lh) v u
    unfolding product
    stages_are_product u v hu = two_stages matrix (2 ^ lw) (2 ^ lh) r b u v (λ y hy. sb y u hy hu)

    second_bound : (u v : ℕ) → u < 2 ^ lw → v < 2 ^ lh
        → nat_abs (stage_at matrix (2 ^ lh) b u v) ≤ 32736 * 2 ^ (7 + lw + lh)
    unfolding stage_at
    second_bound u v hu hv =
        omega (
          arith,
          row_bound lh (omega arith) (λ y. at b (u * 2 ^ lh + y)) (65472 * 2 ^ lw)
              (λ y hy. first_within (u * 2 ^ lh + y) (inside (2 ^ lh) u y hy (2 ^ lw) hu)) v hv,
          shift_is lw lh,
          mul_assoc 64 (2 ^ lh) (65472 * 2 ^ lw),
          mul_comm (2 ^ lh) (65472 * 2 ^ lw),
          mul_assoc 65472 (2 ^ lw) (2 ^ lh),
        )

    -- but for 32 by 32 they leave room for the second stage
    pub second_room : length b ≡ 2 ^ lw * 2 ^ lh → lw + lh ≤ 9 → Room lh b
    second_room lb h =
        record {
          most = 65472 * 2 ^ lw;
          each = λ i hi. first_within i (omega arith);
          room = omega (arith, mul_assoc 65472 (2 ^ lw) (2 ^ lh), pow-add 2 lw lh, pow_mono {i = lw + lh} {j = 9} h);
        }

    -- f of the sums of the second stage in a, each line down its column: what is left is to round
    module _ (f : ℤ → ℤ) (a : List ℤ) (sa : Staged matrix f lh (2 ^ lw) b a (2 ^ lw)) where
      whole_at : (i : ℕ) → i < 2 ^ lw * 2 ^ lh → at a i ≡ f (product r (2 ^ lw) (2 ^ lh) (i / 2 ^ lw) (i % 2 ^ lw))
      whole_at i hi =
          let hi' : i < 2 ^ lh * 2 ^ lw = omega (arith, mul_comm (2 ^ lw) (2 ^ lh)) in
          let hv : i / 2 ^ lw < 2 ^ lh = row_inside (2 ^ lw) (2 ^ lh) i (pow_pos lw) hi' in
          let hu : i % 2 ^ lw < 2 ^ lw = column_inside (2 ^ lw) (2 ^ lh) i (pow_pos lw) hi' in
          ap (at a) (sym (place_is (2 ^ lw) (2 ^ lh) i (pow_pos lw) hi'))
          ∙ sa (i % 2 ^ lw) (i / 2 ^ lw) hu hv
          ∙ ap f (stages_are_product (i % 2 ^ lw) (i / 2 ^ lw) hu)

      whole_bound : (i : ℕ) → i < 2 ^ lw * 2 ^ lh
          → nat_abs (product r (2 ^ lw) (2 ^ lh) (i / 2 ^ lw) (i % 2 ^ lw)) ≤ 32736 * 2 ^ (7 + lw + lh)
      whole_bound i hi =
          let hi' : i < 2 ^ lh * 2 ^ lw = omega (arith, mul_comm (2 ^ lw) (2 ^ lh)) in
          let hv : i / 2 ^ lw < 2 ^ lh = row_inside (2 ^ lw) (2 ^ lh) i (pow_pos lw) hi' in
          let hu : i % 2 ^ lw < 2 ^ lw = column_inside (2 ^ lw) (2 ^ lh) i (pow_pos lw) hi' in
          subst (λ (z : ℤ). nat_abs z ≤ 32736 * 2 ^ (7 + lw + lh)) (stages_are_product (i % 2 ^ lw) (i / 2 ^ lw) hu)
          (second_bound (i % 2 ^ lw) (i / 2 ^ lw) hu hv)

      -- the shift s that is left, of f of a sum, is the shift of the sum
      module _ (s : ℕ) (same : (z : ℤ) → rounded (f z) s ≡ rounded z (7 + lw + lh))
          (bound : (z : ℤ) → nat_abs z ≤ 32736 * 2 ^ (7 + lw + lh) → nat_abs (f z) ≤ 32736 * 2 ^ s) where
        pub settle_within : (i : ℕ) → i < 2 ^ lw * 2 ^ lh → nat_abs (at a i) ≤ 32736 * 2 ^ s
        settle_within i hi =
            subst (λ (z : ℤ). nat_abs z ≤ 32736 * 2 ^ s) (sym (whole_at i hi)) (bound _ (whole_bound i hi))

        pub settled : (out : List ℤ) → length out ≡ 2 ^ lw * 2 ^ lh
            → ((i : ℕ) → i < 2 ^ lw * 2 ^ lh → at out i ≡ rounded (at a i) s) → out ≡ coefficients r lw lh
        unfolding coefficients coefficient
        settled out lo e =
            filled_all (pos 0) out (coefficients r lw lh) (2 ^ lw * 2 ^ lh)
            (lo ∙ sym (listed_length (λ i. coefficient r lw lh (i / 2 ^ lw) (i % 2 ^ lw)) 0 (2 ^ lw * 2 ^ lh)))
            (omega arith)
            (λ i hi.
            e i hi
            ∙ ap (λ (z : ℤ). rounded z s) (whole_at i hi)
            ∙ same (product r (2 ^ lw) (2 ^ lh) (i / 2 ^ lw) (i % 2 ^ lw))
            ∙ sym (listed_at (pos 0) (λ i. coefficient r lw lh (i / 2 ^ lw) (i % 2 ^ lw)) (2 ^ lw * 2 ^ lh) i hi))

  -- accepted residuals give coefficients of magnitude at most 32736, which an i16 has room for
  firsts : List ℤ
  firsts = listed (λ i. stage_at matrix (2 ^ lw) r (i % 2 ^ lh) (i / 2 ^ lh)) 0 (2 ^ lw * 2 ^ lh)

  firsts_staged : Staged matrix (λ z. z) lw (2 ^ lh) r firsts (2 ^ lh)
  unfolding firsts
  firsts_staged y u hy hu =
      listed_at (pos 0) (λ i. stage_at matrix (2 ^ lw) r (i % 2 ^ lh) (i / 2 ^ lh)) (2 ^ lw * 2 ^ lh) (u * 2 ^ lh + y)
      (inside (2 ^ lh) u y hy (2 ^ lw) hu)
      ∙ ap (λ (n : ℕ). stage_at matrix (2 ^ lw) r n ((u * 2 ^ lh + y) / 2 ^ lh)) (column_of_lem (2 ^ lh) u y hy)
      ∙ ap (λ (n : ℕ). stage_at matrix (2 ^ lw) r y n) (row_of (2 ^ lh) u y hy)

  pub coefficient_bound : (v u : ℕ) → v < 2 ^ lh → u < 2 ^ lw → nat_abs (coefficient r lw lh v u) ≤ 32736
  unfolding coefficient
  coefficient_bound v u hv hu =
      rounded_bound (product r (2 ^ lw) (2 ^ lh) v u) (7 + lw + lh) 32736 (omega arith)
      (subst (λ (z : ℤ). nat_abs z ≤ 32736 * 2 ^ (7 + lw + lh)) (stages_are_product firsts firsts_staged u v hu)
      (second_bound firsts firsts_staged u v hu hv))
