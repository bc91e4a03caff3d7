-- `unstage::lines16` meets its contract: the two halves of every line, unfolded.
use mathlib.Core.Path.{◌≡◌, refl, ◌∙◌, ap}
use mathlib.Core.List.{List}
use Prim.Native.Nat.{ℕ, ◌+◌, ◌-◌, ◌*◌, ◌<◌, ◌≤◌}
use native.Mathlib.Omega.{arith}
use lib.ListN.{length}
use lib.IntN.{ℤ}
use Rattle.integers.specs.Sum.{at}
use Rattle.tables.specs.Matrix.{matrix}
use Rattle.unfold.specs.Inner.Back.{odd_at}
use Rattle.unstage.proofs.Halves.{lower_long, both_long, unfold_asks, unfolded_values}
use Rattle.unstage.proofs.lines16.Goals as goal

-- the last first, and of these the last first again
last_first : (src : List ℤ) (j n : ℕ) → n < 8
    → (let o : ℕ → ℤ = λ k. at src (j * 16 + (2 * k + 1)) in odd_at matrix 8 o (7 - (7 - n)) ≡ odd_at matrix 8 o n)
last_first src j n hn =
    ap (odd_at matrix 8 (λ k. at src (j * 16 + (2 * k + 1)))) (let e : 7 - (7 - n) ≡ n = omega arith in e)

pub unfold_rows-requires : goal.unfold_rows-requires
unfold_rows-requires c =
    let a = c.args in
    let dst = a.dst.now in
    let low = c.evens16.new.dst in
    let up = c.odds16.new.dst in
    let m = 8 * a.lines in
    let hm : m ≤ length dst = omega arith in
    let lu : length up ≡ length dst - m = omega arith in
    -- the lower part comes back as long as it was lent
    let ll : length low ≡ m = omega (arith, lower_long m dst up hm lu) in (
      omega arith,
      omega arith,
      both_long m dst up hm lu low ll ∙ c.requires.2,
      unfold_asks m dst up hm lu low ll 3 (omega arith) a.lines refl c.requires.2 a.src.now c.odds16.ensures.small _ _
          c.evens16.ensures c.odds16.ensures.odds (λ j n hj hn. refl) (λ j n hj hn. last_first a.src.now j n hn),
    )

pub returns : goal.returns
returns c =
    let a = c.args in
    let dst = a.dst.now in
    let low = c.evens16.new.dst in
    let up = c.odds16.new.dst in
    let m = 8 * a.lines in
    let hm : m ≤ length dst = omega arith in
    let lu : length up ≡ length dst - m = omega arith in
    let ll : length low ≡ m = omega (arith, lower_long m dst up hm lu) in
    unfolded_values m dst up hm lu low ll 3 (omega arith) a.lines refl c.requires.2 a.src.now c.odds16.ensures.small _ _
    c.evens16.ensures c.odds16.ensures.odds (λ j n hj hn. refl) (λ j n hj hn. last_first a.src.now j n hn) _
    c.unfold_rows.ensures
