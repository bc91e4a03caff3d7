-- `unstage::halves32` meets its contract: the two halves of every line, unfolded.
use mathlib.Core.Path.{◌≡◌, refl, ◌∙◌, ap}
use mathlib.Core.List.{List}
use Prim.Native.Nat.{ℕ, ◌+◌, ◌-◌, ◌*◌, ◌<◌, ◌≤◌}
use native.Mathlib.Omega.{arith}
use lib.ListN.{length}
use lib.IntN.{ℤ}
use Rattle.integers.specs.Sum.{at}
use Rattle.tables.specs.Matrix.{matrix}
use Rattle.unfold.specs.Inner.Back.{odd_at, Parted}
use Rattle.unstage.proofs.Loop.{all_even, all_odd, all_small}
use Rattle.unstage.proofs.Halves.{lower_long, both_long, unfold_asks, unfolded_values}
use Rattle.unstage.proofs.halves32.Goals as goal

-- the last first, and of these the last first again
last_first : (lines : ℕ) (src es os : List ℤ) → length es ≡ lines * 16 → Parted src es os
    → (j n : ℕ) → j < lines → n < 16
    → odd_at matrix 16 (λ k. at os (j * 16 + k)) (15 - (15 - n))
    ≡ odd_at matrix 16 (λ k. at src (j * 32 + (2 * k + 1))) n
last_first lines src es os le parted j n hj hn =
    ap (odd_at matrix 16 (λ k. at os (j * 16 + k))) (let e : 15 - (15 - n) ≡ n = omega arith in e)
    ∙ all_odd 16 lines src es os le parted j n hj

pub unfold_rows-requires : goal.unfold_rows-requires
unfold_rows-requires c =
    let a = c.args in
    let src = a.src.now in
    let dst = a.dst.now in
    let es = c.part.new.e in
    let os = c.part.new.o in
    let low = c.lines16.new.dst in
    let up = c.odds32.new.dst in
    let m = 16 * a.lines in
    let long = c.requires.lines_bound.2 in
    let hm : m ≤ length dst = omega arith in
    let lu : length up ≡ length dst - m = omega arith in
    let le : length es ≡ a.lines * 16 = omega arith in
    -- the lower part comes back as long as it was lent
    let ll : length low ≡ m = omega (arith, lower_long m dst up hm lu) in (
      omega arith,
      omega arith,
      both_long m dst up hm lu low ll ∙ long,
      unfold_asks m dst up hm lu low ll 4 (omega arith) a.lines refl long src
          (all_small 16 a.lines src es os le c.part.ensures) _ _ c.lines16.ensures c.odds32.ensures
          (λ j n hj hn. all_even 16 a.lines src es os le c.part.ensures j n hj)
          (last_first a.lines src es os le c.part.ensures),
    )

pub returns : goal.returns
returns c =
    let a = c.args in
    let src = a.src.now in
    let dst = a.dst.now in
    let es = c.part.new.e in
    let os = c.part.new.o in
    let low = c.lines16.new.dst in
    let up = c.odds32.new.dst in
    let m = 16 * a.lines in
    let long = c.requires.lines_bound.2 in
    let hm : m ≤ length dst = omega arith in
    let lu : length up ≡ length dst - m = omega arith in
    let le : length es ≡ a.lines * 16 = omega arith in
    let ll : length low ≡ m = omega (arith, lower_long m dst up hm lu) in
    unfolded_values m dst up hm lu low ll 4 (omega arith) a.lines refl long src
    (all_small 16 a.lines src es os le c.part.ensures) _ _ c.lines16.ensures c.odds32.ensures
    (λ j n hj hn. all_even 16 a.lines src es os le c.part.ensures j n hj)
    (last_first a.lines src es os le c.part.ensures) _
    c.unfold_rows.ensures
