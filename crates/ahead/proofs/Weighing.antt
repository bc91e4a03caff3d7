-- One place weighed as code does it: ending or going on behind a nonzero level, and then the one offer against 0, each
-- at its price.
use mathlib.Core.Path.{◌≡◌, ap}
use mathlib.Core.Bool.{Bool, true, false, cond}
use Prim.Native.Nat.{ℕ, ◌+◌, ◌-◌, ◌≤◌}
use native.Mathlib.Omega.{arith}
use lib.Dec.{ltb, eqb}
use Rattle.price.specs.Level.{nearest, distortion}
use Rattle.price.specs.Walk.{cheaper}
use Rattle.scaling.specs.declared.scale.Scale.{Scale}
use Rattle.weights.specs.declared.prices.Prices.{Prices}
use Rattle.weights.specs.declared.offers.Offer.{Offer}
use Rattle.weights.specs.Inner.Prices.{Fine}
use Rattle.weights.specs.Inner.Offers.{bare, offered, Offered}
use Rattle.ahead.specs.declared.Ahead.{Ahead}
use Rattle.ahead.specs.declared.Choice.{Choice}
use Rattle.ahead.specs.Inner.Ahead.{ChosenOf, behind_by, zero_by, level_by, WeighedBy, WeighedSmall}

-- ---- the offer is m at most
one_of : (t : Bool) (a b m : ℕ) → a ≤ m → b ≤ m → cond t a b ≤ m
one_of true a b m h k = h
one_of false a b m h k = k

offer_below : (p : Prices) (g : Scale) (L : ℕ) → offered true p g L ≤ nearest g.shift L
unfolding offered cheaper
offer_below p g L =
    let m = nearest g.shift L in
    let f = bare p g L in
    one_of (eqb m 1) m (cond (ltb (f m) (f (m - 1))) m (m - 1)) m (omega arith)
    (one_of (ltb (f m) (f (m - 1))) m (m - 1) m (omega arith) (omega arith))

pub taken_small : (p : Prices) (g : Scale) (L : ℕ) → Fine p g L → (offer : Offer) → Offered true p g L offer → (x y : ℕ)
    (r : Choice) → ChosenOf x y offer.level r → r.level ≤ 32767
taken_small p g L f offer o x y r c =
    let k : offer.level ≤ 32767 = omega (arith, o.is, offer_below p g L, f.level) in
    omega (arith, c.level, one_of (ltb y x) offer.level 0 32767 k (omega arith))

-- ---- the place
module _ (p : Prices) (t : Ahead) (g : Scale) (L : ℕ) (offer : Offer) (o : Offered true p g L offer) (d behind : ℕ)
    (hd : d ≡ distortion g.shift g.error L 0) (b : behind ≡ behind_by p t) where
  weighed_as : (zr hr : ℕ) (r : Choice) → ChosenOf (t.zero + d + zr) (behind + offer.price + hr) offer.level r
      → ChosenOf (zero_by g t L + zr) (level_by p g t L + hr) (offered true p g L) r
  weighed_as zr hr r c = rw (← hd, ← b, ← o.is, ← o.price) c

  pub weighed : (z n : Choice) → ChosenOf (t.zero + d + p.zeros) (behind + offer.price + p.heads) offer.level z
      → ChosenOf (t.zero + d + p.zero) (behind + offer.price + p.head) offer.level n
      → (goes_on : Bool) → goes_on ≡ ltb (t.level + p.more) (t.rest + p.last)
      → WeighedBy p g t L
      (record {
        ahead = record { zero = z.price; level = n.price; rest = t.rest + d };
        taken = record { after_zero = z.level; after_level = n.level; goes_on = goes_on };
      })
  weighed z n cz cn goes_on e =
      record {
        zero = weighed_as p.zeros p.heads z cz;
        level = weighed_as p.zero p.head n cn;
        rest = ap (λ (x : ℕ). t.rest + x) hd;
        on = e;
        offer = rw (← o.is, ← o.price) (o.some, o.small);
      }

-- so, of a level that fits
module _ (p : Prices) (t : Ahead) (g : Scale) (L : ℕ) (f : Fine p g L) (offer : Offer) (o : Offered true p g L offer)
    (d behind : ℕ) (hd : d ≡ distortion g.shift g.error L 0) (b : behind ≡ behind_by p t) where
  pub weighed_small : (z n : Choice) → ChosenOf (t.zero + d + p.zeros) (behind + offer.price + p.heads) offer.level z
      → ChosenOf (t.zero + d + p.zero) (behind + offer.price + p.head) offer.level n
      → (goes_on : Bool) → goes_on ≡ ltb (t.level + p.more) (t.rest + p.last)
      → WeighedSmall p g t L
      (record {
        ahead = record { zero = z.price; level = n.price; rest = t.rest + d };
        taken = record { after_zero = z.level; after_level = n.level; goes_on = goes_on };
      })
  weighed_small z n cz cn goes_on e =
      record {
        by = weighed p t g L offer o d behind hd b z n cz cn goes_on e;
        small = (taken_small p g L f offer o _ _ z cz, taken_small p g L f offer o _ _ n cn);
      }
