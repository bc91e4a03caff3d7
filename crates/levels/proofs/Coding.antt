-- The levels of a block, by all that is proved of keeping, choosing and signing: code leaves the block that the
-- definition lays along the scan, and answers its count and its price. What is chosen of what is kept is what is chosen
-- of the block, in either mode.
use mathlib.Core.Path.{◌≡◌, refl, sym, ap, subst, ◌∙◌}
use mathlib.Core.Logic.{⊎_elim}
use mathlib.Core.Bool.{Bool, true, false, cond}
use mathlib.Core.List.{List, map}
use Prim.Native.Nat.{ℕ, ◌*◌, ◌^◌, ◌≤◌, ◌<◌}
use native.Mathlib.Nat.{mul-le-mul, zero-mul}
use native.Mathlib.Omega.{arith}
use lib.Dec.{leb}
use lib.Pow.{pow_mono}
use lib.ListN.{length, get_or, get_or-eq_default}
use lib.IntN.{ℤ, nat_abs}
use borrow.Author.Tests.{leb-true}
use Rattle.integers.specs.Sum.{at}
use Rattle.integers.proofs.Order.{below_or_not}
use Rattle.scan.specs.Order.{in_order}
use Rattle.price.specs.Level.{scaled, nearest}
use Rattle.price.specs.Rule.{Rule}
use Rattle.price.specs.Price.{uncoded}
use Rattle.price.proofs.Lighter.{Lighter}
use Rattle.scaling.specs.declared.scale.Scale.{Scale}
use Rattle.weights.specs.declared.prices.Prices.{Prices}
use Rattle.weights.specs.Inner.Prices.{Fine, rule_by}
use Rattle.weights.specs.Inner.Places.{kept_places, Weighable}
use Rattle.scan.specs.Scanned.{Scanned}
use Rattle.weights.specs.Inner.Choosing.{Choosable}
use Rattle.signs.specs.Inner.Signs.{kept_of, KeptAs}
use Rattle.levels.specs.Inner.Levels.{places_by, Codable}
use Rattle.signs.proofs.Keeping.{kept_some, kept_places_lem, kept_uncoded, kept_lighter}
use Rattle.weights.proofs.Places.{nothing_there}

-- ---- a square block
pub area_range : (most l : ℕ) → l ≤ most → 2 ^ l * 2 ^ l ≤ 2 ^ most * 2 ^ most
area_range most l h = let p = pow_mono {i = l} {j = most} h in mul-le-mul p p

-- ---- a block that refusals 6 to 9 leave
module _ (p : Prices) (g : Scale) (width height : ℕ) (block : List ℤ) (d : ℕ) (held : List ℕ)
    (sc : Scanned width height held)
    (c : Codable p g width height block d) (kept : List ℕ) (n : ℕ) (kept-as : KeptAs g block kept n) where
  abbrev r : Rule
  r = rule_by p g

  abbrev zs : List ℤ
  zs = in_order width height block

  abbrev ps : List ℕ
  ps = places_by g width height block

  room : length kept ≡ width * height
  room = kept-as.room ∙ c.room

  as_kept : (k : ℕ) → k < width * height → get_or kept k 0 ≡ kept_of g (at block k)
  as_kept k h = kept-as.each k (omega (arith, c.room))

  places_are : kept_places g width height kept ≡ map (λ z. kept_of g z * g.q) zs
  places_are = kept_places_lem g width height held sc block kept as_kept

  -- what holds of 0 and of every coefficient kept holds of all that is kept
  of_kept : (P : ℕ → Type 0) → P 0 → ((k : ℕ) → g.least ≤ nat_abs (at block k) → P (nat_abs (at block k))) → (k : ℕ)
      → P (get_or kept k 0)
  of_kept P none some k =
      ⊎_elim (λ (h : k < width * height). subst P (sym (as_kept k h)) (go (leb g.least (nat_abs (at block k))) refl))
      (λ (h : width * height ≤ k). subst P (sym (get_or-eq_default kept 0 (omega (arith, room)))) none)
      (below_or_not k (width * height))
    where
      go : (t : Bool) → leb g.least (nat_abs (at block k)) ≡ t → P (cond t (nat_abs (at block k)) 0)
      go true e = some k (leb-true g.least (nat_abs (at block k)) e)
      go false e = none

  nothing_fine : Fine p g (0 * g.q)
  nothing_fine =
      let z = nothing_there g 0 refl in
      record {
        near = omega (arith, ap (λ (x : ℕ). x * g.error) (zero-mul g.q), zero-mul g.error);
        level = omega arith;
        price = omega (arith, ap (λ (x : ℕ). x * p.each) z, zero-mul p.each);
      }

  weighable : Weighable p g width height kept
  unfolding scaled
  weighable =
      record {
        room = room;
        fine = of_kept (λ (a : ℕ). Fine p g (a * g.q)) nothing_fine (λ k h. c.fine k);
        some =
            of_kept (λ (a : ℕ). 1 ≤ a → 1 ≤ nearest g.shift (a * g.q)) (λ h. absurd (omega arith))
            (λ k h o. kept_some g (nat_abs (at block k)) h);
      }

  kept_left : uncoded r (kept_places g width height kept) ≤ d
  kept_left = omega (arith, ap (uncoded r) places_are, kept_uncoded g p zs, c.is)

  pub choosable : Choosable p g d width height kept n
  choosable = record { weighable = weighable; left = kept_left; small = c.small; count = kept-as.count }

  pub lighter : Lighter r (kept_places g width height kept) ps
  lighter = subst (λ (l : List ℕ). Lighter r l ps) (sym places_are) (kept_lighter g p zs)
