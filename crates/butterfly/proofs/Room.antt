-- The room of a line of side 2^(l+1): its values are small enough to be added, and their sums have room in half the
-- side.
use mathlib.Core.Path.{◌≡◌, sym, ◌∙◌, ap, subst}
use mathlib.Core.List.{List}
use Prim.Native.Nat.{ℕ, suc, ◌+◌, ◌-◌, ◌*◌, ◌^◌, ◌<◌, ◌≤◌}
use native.Mathlib.Nat.{two-pow-succ, mul-le-mul_left, add-mul, mul-add}
use native.Mathlib.Omega.{arith}
use lib.Pow.{pow_pos}
use lib.ListN.{length}
use lib.IntN.{ℤ, nat_abs}
use Rattle.integers.specs.Sum.{at}
use Rattle.integers.proofs.Magnitude.{magnitude-+, magnitude--}
use Rattle.butterfly.specs.Inner.Lines.{Folded, Room}

module _ (l : ℕ) (x : List ℤ) (lx : length x ≡ 2 ^ l + 2 ^ l) (r : Room (suc l) x) where
  pub values_small : (i : ℕ) → i < length x → nat_abs (at x i) ≤ 2 ^ 29
  values_small i hi =
      let some : 1 ≤ 2 ^ suc l = pow_pos (suc l) in
      omega (arith, r.each i hi, r.room, mul-le-mul_left r.most some)

  module _ (e o : List ℤ) (le : length e ≡ 2 ^ l) (f : Folded x e o) where
    -- a value and its counterpart at the other end
    both : (n : ℕ) → n < 2 ^ l → nat_abs (at x n) + nat_abs (at x (length x - 1 - n)) ≤ r.most + r.most
    both n hn = omega (arith, r.each n (omega arith), r.each (length x - 1 - n) (omega arith))

    pub differences_within : (n : ℕ) → n < 2 ^ l → nat_abs (at o n) ≤ r.most + r.most
    differences_within n hn =
        omega (
          arith,
          ap nat_abs (f.differences n (omega arith)),
          magnitude-- (at x n) (at x (length x - 1 - n)),
          both n hn,
        )

    pub sums_room : Room l e
    sums_room =
        record {
          most = r.most + r.most;
          each = λ n hn.
              omega (
                arith,
                ap nat_abs (f.sums n hn),
                magnitude-+ (at x n) (at x (length x - 1 - n)),
                both n (omega arith),
              );
          room =
              subst (λ (v : ℕ). v ≤ 33521664)
              (ap (λ (v : ℕ). r.most * v) (two-pow-succ l) ∙ mul-add r.most (2 ^ l) (2 ^ l)
              ∙ sym (add-mul r.most r.most (2 ^ l)))
              r.room;
        }
