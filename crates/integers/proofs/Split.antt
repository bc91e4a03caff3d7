-- A number cut by a unit m: into its floor and a rest below m, which make it up again; a floor of such a sum in two
-- steps, the rests first.
-- Assumes nothing.
use mathlib.Core.Path.{◌≡◌, sym, ◌∙◌, ap}
use Prim.Native.Nat.{ℕ, ◌+◌, ◌*◌, ◌/◌, ◌<◌}
use native.Mathlib.Nat.{add-mul, mul-add, mul_comm, mul_left_comm, mul-le-mul_left, mul-suc}
use native.Mathlib.Omega.{arith}
use lib.IntN.{ℤ, pos, nat_abs, neg_ℤ, ◌+ℤ◌, ◌-ℤ◌, ◌*ℤ◌, *ℤ_comm}
use lib.Signed.{shr_z}
use Rattle.integers.proofs.Parts.{above, below, +-parts, neg_above, neg_below, eq_of_parts}
use Rattle.integers.proofs.Parts.{times_above, times_below}
use Rattle.integers.proofs.Grid.{row_of}
use Rattle.integers.proofs.Floor.{floor_left, floor_unique}

-- ---- the parts of a multiple
pub multiple_above : (m : ℕ) (z : ℤ) → above (pos m *ℤ z) ≡ m * above z
multiple_above m z = ap above (*ℤ_comm (pos m) z) ∙ times_above z m ∙ mul_comm (above z) m

pub multiple_below : (m : ℕ) (z : ℤ) → below (pos m *ℤ z) ≡ m * below z
multiple_below m z = ap below (*ℤ_comm (pos m) z) ∙ times_below z m ∙ mul_comm (below z) m

module _ (m : ℕ) (p : 0 < m) where
  -- what z has over m times its floor, and its size
  pub rest_is : (z : ℤ) → z -ℤ pos m *ℤ shr_z z m ≡ pos (floor_left z m p).rest
  unfolding above below
  rest_is z =
      let l = floor_left z m p in
      let f = shr_z z m in
      eq_of_parts (z -ℤ pos m *ℤ f) (pos l.rest)
      (omega (
        arith,
        l.whole,
        +-parts z (neg_ℤ (pos m *ℤ f)),
        neg_above (pos m *ℤ f),
        neg_below (pos m *ℤ f),
        multiple_above m f,
        multiple_below m f,
        mul_comm m (above f),
        mul_comm m (below f),
      ))

  pub rest_bound : (z : ℤ) → nat_abs (z -ℤ pos m *ℤ shr_z z m) < m
  rest_bound z = omega (arith, ap nat_abs (rest_is z), (floor_left z m p).less)

  -- the floor of m·a + z by m·n: z is floored by m first
  pub floor_in_two : (a z : ℤ) (n : ℕ) → 0 < n → shr_z (pos m *ℤ a +ℤ z) (m * n) ≡ shr_z (a +ℤ shr_z z m) n
  floor_in_two a z n q =
      let l = floor_left z m p in
      let f = shr_z z m in
      let k = floor_left (a +ℤ f) n q in
      let g = shr_z (a +ℤ f) n in
      floor_unique (pos m *ℤ a +ℤ z) g (m * n)
      (record {
        rest = m * k.rest + l.rest;
        less = omega (arith, l.less, k.less, mul-le-mul_left m k.less, mul-suc m k.rest);
        whole = omega (
          arith,
          l.whole,
          +-parts (pos m *ℤ a) z,
          multiple_above m a,
          multiple_below m a,
          scaled a f g n k.rest k.whole,
          mul_comm m (above f),
          mul_comm m (below f),
        );
      })
    where
      scaled : (a f g : ℤ) (n r : ℕ) → above (a +ℤ f) + below g * n ≡ below (a +ℤ f) + above g * n + r
          → m * above a + m * above f + below g * (m * n) ≡ m * below a + m * below f + above g * (m * n) + m * r
      scaled a f g n r e =
          let u : above a + above f + below g * n ≡ below a + below f + above g * n + r =
          omega (arith, +-parts a f) in
          omega (
            arith,
            ap (λ (x : ℕ). m * x) u,
            mul-add m (above a + above f) (below g * n),
            mul-add m (above a) (above f),
            mul-add m (below a + below f + above g * n) r,
            mul-add m (below a + below f) (above g * n),
            mul-add m (below a) (below f),
            mul_left_comm m (below g) n,
            mul_left_comm m (above g) n,
          )

-- z is p times m less n times m: what is added below m is dropped again
pub floor_exact : (z : ℤ) (h m p n : ℕ) → h < m → above z + n * m ≡ below z + p * m
    → above (shr_z (z +ℤ pos h) m) + n ≡ below (shr_z (z +ℤ pos h) m) + p
unfolding above below
floor_exact z h m p n l e =
    let f = shr_z (z +ℤ pos h) m in
    let k = floor_left (z +ℤ pos h) m (omega arith) in
    let same : (p + below f) * m + h ≡ (n + above f) * m + k.rest =
    omega (arith, k.whole, +-parts z (pos h), add-mul p (below f) m, add-mul n (above f) m) in
    let q : p + below f ≡ n + above f =
    sym (row_of m (p + below f) h l) ∙ ap (λ (i : ℕ). i / m) same ∙ row_of m (n + above f) k.rest k.less in
    omega arith

-- z is made up of its floor and its rest again
pub split_whole : (z : ℤ) (m : ℕ) → pos m *ℤ shr_z z m +ℤ (z -ℤ pos m *ℤ shr_z z m) ≡ z
split_whole z m =
    let y = pos m *ℤ shr_z z m in
    eq_of_parts (y +ℤ (z -ℤ y)) z
    (omega (arith, +-parts y (z -ℤ y), +-parts z (neg_ℤ y), neg_above y, neg_below y))
