-- The levels that are chosen by what is kept of a block are those of the whole block: what is left out weighs nothing,
-- so that the definition writes the same of either; and with the signs put back they are the block that it leaves.
use mathlib.Core.Path.{◌≡◌, ap, subst, ◌∙◌}
use mathlib.Core.List.{List}
use Prim.Native.Nat.{ℕ, ◌*◌, ◌≤◌, ◌<◌}
use native.Mathlib.Omega.{arith}
use lib.ListN.{length, get_or, length-map}
use lib.IntN.{ℤ, pos}
use Rattle.integers.specs.Sum.{at}
use Rattle.integers.proofs.Lists.{map_at}
use Rattle.scan.specs.Scan.{scan}
use Rattle.scan.specs.Order.{in_order}
use Rattle.price.specs.Level.{scaled, nearest}
use Rattle.price.specs.Rule.{Rule}
use Rattle.price.specs.Price.{nonzeros, price}
use Rattle.price.proofs.Blocks.{Block, allowed_block}
use Rattle.price.proofs.Lighter.{Lighter, lighter_price, lighter_cheapest, lighter_written}
use Rattle.scaling.specs.declared.scale.Scale.{Scale}
use Rattle.weights.specs.declared.prices.Prices.{Prices}
use Rattle.weights.specs.Inner.Prices.{rule_by}
use Rattle.weights.specs.Inner.Places.{Standing}
use Rattle.scan.specs.Scanned.{Scanned}
use Rattle.weights.specs.declared.kept.Kept.{Kept}
use Rattle.weights.specs.Inner.Chosen.{rule_of, places_of, ChosenBy}
use Rattle.levels.proofs.Coding.{lighter}
use Rattle.coding.specs.declared.Mode.{Mode}
use Rattle.coding.specs.declared.Mode.TheVariants as modes
use Rattle.coding.specs.Block.{written_in, signs}
use Rattle.signs.specs.Inner.Signs.{KeptAs}
use Rattle.levels.specs.Inner.Levels.{places_by, Codable, CodedAs}
use Rattle.along.proofs.Steps.{allowed_below}
use Rattle.coding.proofs.Modes.{length_written, zero_or_m_or_m-1}
use Rattle.weights.proofs.Places.{same_count, everywhere}
use Rattle.signs.proofs.Signing.{same_block}

module _ (k : Kept) (block : List ℤ) (c : Codable k.weights.prices k.weights.scale k.scan.w k.scan.h block k.d)
    (kept-as : KeptAs k.weights.scale block k.magnitudes.now k.count) (mode : Mode) (levels : List ℕ) (x : ℕ)
    (o : ChosenBy (written_in mode) k levels x) where
  abbrev p : Prices
  p = k.weights.prices

  abbrev g : Scale
  g = k.weights.scale

  abbrev width : ℕ
  width = k.scan.w

  abbrev height : ℕ
  height = k.scan.h

  abbrev held : List ℕ
  held = k.scan.held.now

  abbrev sc : Scanned width height held
  sc = k.scan.scanned

  abbrev r : Rule
  r = rule_of k

  abbrev ks : List ℕ
  ks = places_of k

  abbrev zs : List ℤ
  zs = in_order width height block

  abbrev ps : List ℕ
  ps = places_by g width height block

  less : Lighter r ks ps
  less = lighter p g width height block k.d held sc c k.magnitudes.now k.count kept-as

  ls : List ℕ
  ls = written_in mode r ps

  long : length ls ≡ width * height
  unfolding ls
  long = length_written mode r ps ∙ length-map zs (λ z. scaled g.q z)
      ∙ length-map (scan width height) (λ k. at block k) ∙ sc.full

  same_written : written_in mode r ks ≡ ls
  unfolding ls
  same_written = by mode
    where
      by : (m : Mode) → written_in m r ks ≡ written_in m r ps
      by modes.Walk = lighter_written r ks ps less
      by modes.Least = lighter_cheapest r ks ps less

  standing : Standing width height levels ls
  standing = subst (Standing width height levels) same_written o.levels

  a_block : Block r ks (written_in mode r ks)
  a_block = allowed_block r ks (written_in mode r ks) (length_written mode r ks) (zero_or_m_or_m-1 mode r ks)

  paid : x ≡ price r ls ps
  paid =
      let f = lighter_price r ks ps (written_in mode r ks) less a_block in
      omega (arith, f, o.price, c.is, ap (λ (l : List ℕ). price r l ps) same_written)

  small : (k : ℕ) → k < width * height → get_or ls k 0 ≤ 32767
  unfolding ls rule_by
  small k h =
      let n : length ps ≡ width * height = length-map zs (λ z. scaled g.q z)
      ∙ length-map (scan width height) (λ k. at block k) ∙ sc.full in
      let m : length zs ≡ width * height = length-map (scan width height) (λ k. at block k) ∙ sc.full in
      let e : get_or ps k 0 ≡ scaled g.q (at block (get_or (scan width height) k 0)) =
      map_at (pos 0) 0 (λ z. scaled g.q z) zs k (omega arith)
      ∙ ap (λ (z : ℤ). scaled g.q z) (map_at 0 (pos 0) (λ k. at block k) (scan width height) k
      (omega (arith, sc.full))) in
      let a = allowed_below _ _ (zero_or_m_or_m-1 mode r ps k (omega arith)) in
      omega (arith, (c.fine (get_or (scan width height) k 0)).level, ap (nearest g.shift) e)

  pub room_left : length levels ≡ width * height
  room_left = o.room

  pub level_small : (k : ℕ) → get_or levels k 0 ≤ 32767
  level_small =
      everywhere width height held sc ls long levels room_left standing (λ (a : ℕ). a ≤ 32767) (omega arith) small

  pub coded_as : (after : List ℤ) (n : ℕ) → after ≡ signs block levels → n ≡ nonzeros levels
      → CodedAs mode p g width height block after (record { count = n; price = x })
  unfolding ls
  coded_as after n e f =
      record {
        buffer = e ∙ same_block width height held sc ls long levels room_left standing block c.room;
        count = f ∙ same_count width height held sc ls long levels room_left standing;
        price = paid;
      }
