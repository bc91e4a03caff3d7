-- Halves that floor: a number is twice its half and a rest of 0 or 1; a sum of lines by their halves and rests; and
-- rounding the half of a number by 16 bits is rounding the number by 17.
use mathlib.Core.Path.{◌≡◌, sym, ◌∙◌, ap, subst}
use mathlib.Core.List.{List}
use lib.ListN.{length}
use Prim.Native.Nat.{ℕ, ◌+◌, ◌*◌, ◌^◌, ◌<◌, ◌≤◌}
use native.Mathlib.Omega.{arith}
use lib.Dec.{lit<}
use lib.IntN.{ℤ, pos, nat_abs, neg_ℤ, ◌+ℤ◌, ◌-ℤ◌, ◌*ℤ◌}
use lib.Signed.{shr_z}
use mir.Syntax.{w32}
use mir.Val.{SFits, to_z, of_z}
use mir.Facts.{to_z-of_z}
use Rattle.integers.proofs.Fit.{fits, fits_within, operation_fits, shift_fits}
use Rattle.integers.proofs.Magnitude.{magnitude-+, magnitude--}
use Rattle.integers.specs.Sum.{on_ℤ, sum_ℤ, at}
use Rattle.integers.specs.Floor.{rounded}
use Rattle.integers.proofs.Parts.{above, below, +-parts, neg_above, neg_below, eq_of_parts}
use Rattle.integers.proofs.Ring.{dist_left}
use Rattle.integers.proofs.Floor.{floor_left, floor_unique, shift_bound}
use Rattle.integers.proofs.Sums.{ints, sum_ext, sum_plus}
use Rattle.tables.specs.Matrix.{Matrices, matrix}
use Rattle.butterfly.specs.Inner.Lines.{line_at, place, Room}
use Rattle.halves.specs.Inner.Halves.{half, over}
use Rattle.butterfly.proofs.Bounds.{line_bound}
use Rattle.columns.proofs.Places.{coefficient_at}

over_is : (z : ℤ) → over z ≡ pos (floor_left z 2 (lit< tt)).rest
unfolding above below
over_is z =
    let l = floor_left z 2 (lit< tt) in
    eq_of_parts (over z) (pos l.rest)
    (omega (
      arith,
      l.whole,
      +-parts (z -ℤ half z) (neg_ℤ (half z)),
      +-parts z (neg_ℤ (half z)),
      neg_above (half z),
      neg_below (half z),
    ))

pub over_small : (z : ℤ) → nat_abs (over z) ≤ 1
over_small z = omega (arith, ap nat_abs (over_is z), (floor_left z 2 (lit< tt)).less)

pub twice_and_over : (z : ℤ) → z ≡ (half z +ℤ half z) +ℤ over z
twice_and_over z =
    eq_of_parts z ((half z +ℤ half z) +ℤ over z)
    (omega (
      arith,
      +-parts (half z +ℤ half z) (over z),
      +-parts (half z) (half z),
      +-parts (z -ℤ half z) (neg_ℤ (half z)),
      +-parts z (neg_ℤ (half z)),
      neg_above (half z),
      neg_below (half z),
    ))

pub half_bound : (z : ℤ) (b : ℕ) → nat_abs z ≤ b * 2 → nat_abs (half z) ≤ b
half_bound z b h = shift_bound z 2 b (lit< tt) h

pub half_of_twice : (p q : ℤ) → half ((p +ℤ p) +ℤ q) ≡ p +ℤ half q
half_of_twice p q =
    let l = floor_left q 2 (lit< tt) in
    floor_unique ((p +ℤ p) +ℤ q) (p +ℤ half q) 2
    (record {
      rest = l.rest;
      less = l.less;
      whole = omega (arith, l.whole, +-parts (p +ℤ p) q, +-parts p p, +-parts p (half q));
    })

pub half_rounded : (z : ℤ) → rounded (half z) 16 ≡ rounded z 17
unfolding above below
half_rounded z =
    let l = floor_left z 2 (lit< tt) in
    let k = floor_left (half z +ℤ pos 32768) 65536 (lit< tt) in
    sym
    (floor_unique (z +ℤ pos 65536) (rounded (half z) 16) 131072
    (record {
      rest = 2 * k.rest + l.rest;
      less = omega (arith, l.less, k.less);
      whole = omega (arith, l.whole, k.whole, +-parts z (pos 65536), +-parts (half z) (pos 32768));
    }))

-- ---- as the machine works them out
module _ (z u : ℤ) (eu : u ≡ half z) (h : nat_abs z ≤ 2 ^ 29) where
  value : SFits w32 z
  value = fits_within z (2 ^ 29) h (lit< tt)

  small : nat_abs u ≤ 2 ^ 29
  small = subst (λ (v : ℤ). nat_abs v ≤ 2 ^ 29) (sym eu) (half_bound z (2 ^ 29) (omega arith))

  halved : SFits w32 u
  halved = fits_within u (2 ^ 29) small (lit< tt)

  once : SFits w32 (z -ℤ u)
  once = fits_within (z -ℤ u) (2 ^ 30) (omega (arith, magnitude-- z u, small)) (lit< tt)

  over_u : z -ℤ u -ℤ u ≡ over z
  over_u = ap (λ (v : ℤ). z -ℤ v -ℤ v) eu

  twice : SFits w32 (z -ℤ u -ℤ u)
  twice = subst (λ (v : ℤ). SFits w32 v) (sym over_u) (fits_within (over z) 1 (over_small z) (lit< tt))

  pub once_fits : SFits w32 (to_z w32 (of_z w32 z) -ℤ to_z w32 (of_z w32 u))
  once_fits = operation_fits w32 ◌-ℤ◌ z u value halved once

  pub twice_fits : SFits w32 (to_z w32 (of_z w32 (to_z w32 (of_z w32 z) -ℤ to_z w32 (of_z w32 u))) -ℤ to_z w32 (of_z w32 u))
  twice_fits = let a = value in let b = halved in let c = once in simp to_z-of_z twice

  pub over_held : to_z w32
      (of_z w32 (to_z w32 (of_z w32 (to_z w32 (of_z w32 z) -ℤ to_z w32 (of_z w32 u))) -ℤ to_z w32 (of_z w32 u))) ≡ over z
  over_held = let a = value in let b = halved in let c = once in let d = twice in simp to_z-of_z over_u

module _ (p q : ℤ) (fp : SFits w32 p) (fq : SFits w32 q) (h : nat_abs p + nat_abs q < 2 ^ 31) where
  joined : SFits w32 (p +ℤ half q)
  joined =
      fits (p +ℤ half q) (omega (arith, magnitude-+ p (half q), half_bound q (nat_abs q) (omega arith)))

  pub join_fits : SFits w32 (to_z w32 (of_z w32 p) +ℤ to_z w32 (of_z w32 (shr_z (to_z w32 (of_z w32 q)) 2)))
  join_fits = let a = fp in let b = fq in let c = shift_fits w32 q 2 fq in simp to_z-of_z joined

  pub join_is : to_z w32 (of_z w32 (to_z w32 (of_z w32 p) +ℤ to_z w32 (of_z w32 (shr_z (to_z w32 (of_z w32 q)) 2))))
      ≡ p +ℤ half q
  join_is = let a = fp in let b = fq in let c = shift_fits w32 q 2 fq in let d = joined in simp to_z-of_z

-- ---- lines
pub line_of_parts : (M : Matrices) (N : ℕ) (x u v : List ℤ)
    → ((n : ℕ) → n < N → at x n ≡ (at u n +ℤ at u n) +ℤ at v n) → (k : ℕ)
    → line_at M N x k ≡ (line_at M N u k +ℤ line_at M N u k) +ℤ line_at M N v k
unfolding line_at
line_of_parts M N x u v e k =
    let t = M N k in
    sum_ext on_ℤ N (λ n. t n *ℤ at x n) (λ n. (t n *ℤ at u n +ℤ t n *ℤ at u n) +ℤ t n *ℤ at v n)
    (λ n h.
    ap (λ (z : ℤ). t n *ℤ z) (e n h)
    ∙ dist_left (t n) (at u n +ℤ at u n) (at v n)
    ∙ ap (λ (z : ℤ). z +ℤ t n *ℤ at v n) (dist_left (t n) (at u n) (at u n)))
    ∙ sum_plus ints N (λ n. t n *ℤ at u n +ℤ t n *ℤ at u n) (λ n. t n *ℤ at v n)
    ∙ ap (λ (z : ℤ). z +ℤ sum_ℤ N (λ n. t n *ℤ at v n)) (sum_plus ints N (λ n. t n *ℤ at u n) (λ n. t n *ℤ at u n))

-- ---- a large line x, cut into its halves u and its rests v
pub record Cut (x u v : List ℤ) : Type 0 where
  pub small : (i : ℕ) → i < 32 → nat_abs (at x i) ≤ 2095104
  pub halves : (i : ℕ) → i < 32 → at u i ≡ half (at x i)
  pub rests : (i : ℕ) → i < 32 → at v i ≡ over (at x i)

module _ (x u v : List ℤ) (cut : Cut x u v) where
  half_within : (i : ℕ) → i < 32 → nat_abs (at u i) ≤ 1047552
  half_within i h =
      subst (λ (z : ℤ). nat_abs z ≤ 1047552) (sym (cut.halves i h))
      (half_bound (at x i) 1047552 (omega (arith, cut.small i h)))

  over_within : (i : ℕ) → i < 32 → nat_abs (at v i) ≤ 1
  over_within i h = subst (λ (z : ℤ). nat_abs z ≤ 1) (sym (cut.rests i h)) (over_small (at x i))

  pub halves_room : length u ≡ 32 → Room 5 u
  halves_room e = record { most = 1047552; each = λ i h. half_within i (omega arith); room = omega arith }

  pub rests_room : length v ≡ 32 → Room 5 v
  rests_room e = record { most = 1; each = λ i h. over_within i (omega arith); room = omega arith }

  module _ (p q : List ℤ) (hp : (k : ℕ) → k < 32 → at p (place 5 k) ≡ line_at matrix 32 u k)
      (hq : (k : ℕ) → k < 32 → at q (place 5 k) ≡ line_at matrix 32 v k) where
    pub parts_fit : (i : ℕ) → i < 32 → nat_abs (at p i) + nat_abs (at q i) < 2 ^ 31
    parts_fit i h =
        let c = coefficient_at i h in
        let k = c.number in
        subst (λ (n : ℕ). nat_abs (at p n) + nat_abs (at q n) < 2 ^ 31) c.there
        (omega (
          arith,
          ap nat_abs (hp k c.inside),
          ap nat_abs (hq k c.inside),
          line_bound 5 (omega arith) u 1047552 half_within k c.inside,
          line_bound 5 (omega arith) v 1 over_within k
              c.inside,
        ))

    pub parts_join : (k : ℕ) → k < 32 → at p (place 5 k) +ℤ half (at q (place 5 k)) ≡ half (line_at matrix 32 x k)
    parts_join k h =
        ap (λ (z : ℤ). z +ℤ half (at q (place 5 k))) (hp k h)
        ∙ ap (λ (z : ℤ). line_at matrix 32 u k +ℤ half z) (hq k h)
        ∙ sym (half_of_twice (line_at matrix 32 u k) (line_at matrix 32 v k))
        ∙ ap half (sym (line_of_parts matrix 32 x u v is k))
      where
        is : (n : ℕ) → n < 32 → at x n ≡ (at u n +ℤ at u n) +ℤ at v n
        is n h =
            twice_and_over (at x n)
            ∙ ap (λ (z : ℤ). (z +ℤ z) +ℤ over (at x n)) (sym (cut.halves n h))
            ∙ ap (λ (z : ℤ). (at u n +ℤ at u n) +ℤ z) (sym (cut.rests n h))
