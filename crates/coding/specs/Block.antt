-- What becomes of the coefficients of a block: the quick skip, or the block that its mode writes, the levels, the count
-- and the price. It is all in scan order, over the rule that the call's inputs make; specs/Call.antt says which calls
-- are accepted.
use Rattle.std.specs.Prelude.{Bool, not, cond, List, [], ◌∷◌, map, ℕ, ◌+◌, ◌*◌, ◌/◌, ◌^◌, max, leb, ℤ}
use Rattle.integers.specs.Sum.{at}
use Rattle.integers.specs.Tests.{some}
use Rattle.scan.specs.Scan.{scan}
use Rattle.scan.specs.Order.{laid}
use Rattle.tables.specs.Scales.{forward, scale_of, error_scale}
use Rattle.refusals.specs.declared.Component.{Component}
use Rattle.price.specs.declared.Settings.{Settings}
use Rattle.price.specs.Lambda.{lambda_of}
use Rattle.price.specs.Level.{shift_of, scaled, nearest, distortion, threshold, signed}
use Rattle.price.specs.declared.Costs.{Costs}
use Rattle.price.specs.Costs.{Rows, entry, rate}
use Rattle.price.specs.Rule.{Rule}
use Rattle.price.specs.Price.{nonzeros, price}
use Rattle.price.specs.Walk.{written}
use Rattle.price.specs.Cheapest.{cheapest}
use Rattle.price.specs.Rows.{rows_of}
use Rattle.coding.specs.declared.Coding.{Coding}
use Rattle.coding.specs.declared.Mode.{Mode}
use Rattle.coding.specs.declared.Mode.TheVariants.{Walk, Least}

-- what document 01 fixes: the row of scales, the price of a sign, and the rows of the cost tables that a component
-- reads
pub record Fixed : Type 0 where
  pub scales : List ℕ
  pub sign : ℕ
  pub rows : Component → Bool → Rows

unfoldable pub document01 : Fixed
unfolding forward rows_of
document01 = record { scales = forward; sign = 32768; rows = rows_of }

-- the inputs of a call: a buffer that begins with the coefficients of a block by rows, the log2 sides of the block, the
-- component and its settings, the two flags, the cost tables; then the mode, which document 01 has as the walk, and
-- what it fixes
pub record Quant : Type 0 where
  pub buffer : List ℤ
  pub lw : ℕ
  pub lh : ℕ
  pub component : Component
  pub settings : Settings
  pub intra_slice : Bool
  pub intra_coded : Bool
  pub costs : Costs
  pub mode : Mode
  pub fixed : Fixed

-- a call for square blocks, by what it is lent and what it is asked
unfoldable pub called : List ℤ → Costs → Coding → Quant
unfolding document01
called buffer t c =
    record {
      buffer = buffer;
      lw = c.log2;
      lh = c.log2;
      component = c.component;
      settings = c.settings;
      intra_slice = c.intra_slice;
      intra_coded = c.intra_coded;
      costs = t;
      mode = c.mode;
      fixed = document01;
    }

-- ---- the numbers of a call
-- l: log2 of the side, half the sum of the two
unfoldable pub log2_of : Quant → ℕ
log2_of c = (c.lw + c.lh) / 2

-- how many places the block has
unfoldable pub area : Quant → ℕ
area c = 2 ^ c.lw * 2 ^ c.lh

-- q
unfoldable pub scale_here : Quant → ℕ
unfolding scale_of
scale_here c = scale_of c.fixed.scales c.settings.qp

-- b
unfoldable pub shift_here : Quant → ℕ
unfolding shift_of log2_of
shift_here c = shift_of (log2_of c) c.settings.qp

unfoldable pub lambda_here : Quant → ℕ
unfolding lambda_of
lambda_here c = lambda_of c.settings.lambda

-- the rows of the cost tables that it reads
unfoldable pub rows_here : Quant → Rows
rows_here c = c.fixed.rows c.component c.intra_coded

-- what the block is priced by
unfoldable pub rule_of : Quant → Rule
unfolding scale_here shift_here log2_of lambda_here rows_here error_scale nearest distortion entry rate
rule_of c =
    let b = shift_here c in
    let e = error_scale (log2_of c) (scale_here c) in
    let lambda = lambda_here c in
    let rows = rows_here c in
    let t = c.costs in
    record {
      top = nearest b;
      dist = distortion b e;
      rate = λ z a. lambda * rate c.fixed.sign t rows z a;
      coded = lambda * entry t.cbf rows.cbf 1;
      empty = lambda * entry t.cbf rows.cbf 0;
      more = lambda * entry t.last rows.last 0;
      last = lambda * entry t.last rows.last 1;
    }

-- ---- the block in scan order
-- the block places, the coefficients that stand there, and their L
unfoldable pub block_places : Quant → List ℕ
unfolding scan
block_places c = scan (2 ^ c.lw) (2 ^ c.lh)

unfoldable pub scanned : Quant → List ℤ
unfolding block_places
scanned c = map (λ p. at c.buffer p) (block_places c)

unfoldable pub places : Quant → List ℕ
unfolding scanned scale_here scaled
places c = let q = scale_here c in map (λ z. scaled q z) (scanned c)

-- the quick skip: every L is below the threshold
unfoldable pub is_skipped : Quant → Bool
unfolding some threshold shift_here places
is_skipped c = let t = threshold c.intra_slice (shift_here c) in not (some (λ L. leb t L) (places c))

-- M, the largest m
unfoldable pub largest : (ℕ → ℕ) → List ℕ → ℕ
largest m [] = 0
largest m (L ∷ Ls) = max (m L) (largest m Ls)

-- ---- what is written
-- by the mode: the walk, cut where it is cheapest, or the cheapest block of all
abbrev pub written_in : Mode → Rule → List ℕ → List ℕ
written_in Walk r Ls = written r Ls
written_in Least r Ls = cheapest r Ls

-- the magnitudes: all 0 in a skipped block
unfoldable pub magnitudes : Quant → List ℕ
unfolding is_skipped places rule_of written cheapest
magnitudes c =
    let r = rule_of c in
    let Ls = places c in
    let w = written_in c.mode r Ls in
    cond (is_skipped c) (map (λ L. 0) Ls) w

-- each with its coefficient's sign
unfoldable pub signs : List ℤ → List ℕ → List ℤ
unfolding signed
signs [] ms = []
signs (c ∷ cs) [] = []
signs (c ∷ cs) (m ∷ ms) = signed c m ∷ signs cs ms

unfoldable pub count_of : Quant → ℕ
unfolding magnitudes nonzeros
count_of c = nonzeros (magnitudes c)

-- the price of the block written, of a skipped block too
unfoldable pub price_of : Quant → ℕ
unfolding magnitudes price rule_of places
price_of c = let r = rule_of c in price r (magnitudes c) (places c)

unfoldable pub quantised : Quant → List ℤ
unfolding laid block_places signs scanned magnitudes
quantised c = laid (block_places c) (signs (scanned c) (magnitudes c)) c.buffer
