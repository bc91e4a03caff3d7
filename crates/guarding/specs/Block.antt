-- The guarded block of a component: the candidates of a block in their order, which of them fits, and the one written.
-- A candidate is a list of magnitudes in scan order, as in specs/Block.antt of `coding`.
use Rattle.std.specs.Prelude.{Bool, not, cond, ◌&&◌, List, [], ◌∷◌, ◌++◌, map, ℕ, suc, ◌+◌, ◌^◌, ltb, take, drop, ℤ}
use Rattle.integers.specs.Tests.{some, listed}
use Rattle.scan.specs.Order.{laid}
use Rattle.price.specs.Price.{nonzeros, price}
use Rattle.coding.specs.Block.{Quant, log2_of, rule_of, block_places, scanned, places, magnitudes, signs}
use Rattle.heights.specs.declared.Extremes.{Extremes}
use Rattle.heights.specs.declared.Heights.{Heights}
use Rattle.heights.specs.Extremes.{extremes, within}
use Rattle.guarding.specs.declared.Guarded.{Guarded}

-- a block to be guarded: the quantiser's call on its coefficients, the residuals that these are of, the row of scales
-- by which a viewer scales back, and the host's heights
pub record Guard : Type 0 where
  pub call : Quant
  pub residuals : List ℤ
  pub row : List ℕ
  pub heights : Heights

-- ---- the candidates
-- m at each place
unfoldable pub plain : Quant → List ℕ
unfolding rule_of places
plain c = map (rule_of c).top (places c)

-- magnitudes with the first p put back to m
unfoldable pub put_back : (p : ℕ) (ms rounded : List ℕ) → List ℕ
put_back p ms rounded = take p rounded ++ drop p ms

-- the block that the mode writes, the skip's zeros too; then that block with its first p places put back, for p = 1, 2,
-- 4, .. up to all places, of which there are 2^(lw + lh)
unfoldable pub candidates : Quant → List (List ℕ)
unfolding magnitudes plain put_back listed
candidates c =
    let ms = magnitudes c in
    let rounded = plain c in
    ms ∷ listed (λ i. put_back (2 ^ i) ms rounded) 0 (suc (c.lw + c.lh))

-- ---- which fit
-- the levels of magnitudes, by rows, in front of the call's buffer; their price by document 01's definition
unfoldable pub levels_of : Quant → List ℕ → List ℤ
unfolding laid block_places signs scanned
levels_of c ms = laid (block_places c) (signs (scanned c) ms) c.buffer

unfoldable pub price_with : Quant → List ℕ → ℕ
unfolding price rule_of places
price_with c ms = let r = rule_of c in price r ms (places c)

-- how far what the viewer makes of them lies from the residuals
unfoldable pub extremes_with : Guard → List ℕ → Extremes
unfolding extremes log2_of levels_of
extremes_with g ms =
    let c = g.call in
    extremes g.row (log2_of c) c.settings.qp g.residuals (levels_of c ms)

-- the price is below 2^62, and both extremes are within the host's heights
unfoldable pub fits : Guard → List ℕ → Bool
unfolding price_with within extremes_with
fits g ms = ltb (price_with g.call ms) (2 ^ 62) && within (extremes_with g ms) g.heights

-- ---- what is written: the first candidate that fits
unfoldable pub first_where : {A : Type 0} → (A → Bool) → A → List A → A
first_where f a [] = a
first_where f a (b ∷ bs) = cond (f b) b (first_where f a bs)

unfoldable pub none_fits : Guard → Bool
unfolding some fits candidates
none_fits g = not (some (fits g) (candidates g.call))

-- where none fits, which is refused, no magnitudes are meant
unfoldable pub guarded : Guard → List ℕ
unfolding first_where fits candidates
guarded g = first_where (fits g) [] (candidates g.call)

-- its count, its price, its extremes, and its levels
unfoldable pub reported : Guard → Guarded
unfolding guarded nonzeros price_with extremes_with
reported g =
    let ms = guarded g in
    let e = extremes_with g ms in
    record { count = nonzeros ms; price = price_with g.call ms; darker = e.darker; lighter = e.lighter }

unfoldable pub guarded_levels : Guard → List ℤ
unfolding levels_of guarded
guarded_levels g = levels_of g.call (guarded g)
