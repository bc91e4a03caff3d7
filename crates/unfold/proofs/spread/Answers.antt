-- `unfold::spread` meets its contract: neither store is in the way of what stands already.
use mathlib.Core.Path.{◌≡◌, ◌∙◌}
use mathlib.Core.List.{List}
use Prim.Native.Nat.{ℕ, ◌+◌, ◌*◌, ◌-◌, ◌<◌}
use Rattle.std.proofs.Common.{arith, rules}
use Rattle.std.proofs.lemmas.Int.{to_z-of_z}
use borrow.Author.Count.{below_more}
use lib.ListN.{length, length-set, set}
use lib.Seq.{get_or-set_same, get_or-set_other}
use lib.IntN.{ℤ, pos, ◌+ℤ◌, ◌-ℤ◌}
use mir.Syntax.{w32}
use mir.Val.{SFits}
use Rattle.integers.specs.Sum.{at}
use Rattle.integers.proofs.Magnitude.{magnitude-+, magnitude--}
use Rattle.integers.proofs.Fit.{fits}
use Rattle.integers.proofs.Fill.{filled_more}
use Rattle.unfold.proofs.spread.Goals as goal

-- s goes to place n and d to the n-th from the end
spread_more : (e b row : List ℤ) (n : ℕ) (s d : ℤ) → n < length e → length row ≡ length e + length e
    → s ≡ at e n +ℤ at b n → d ≡ at e n -ℤ at b n
    → ((i : ℕ) → i < n → at row i ≡ at e i +ℤ at b i)
    → ((i : ℕ) → i < n → at row (2 * length e - 1 - i) ≡ at e i -ℤ at b i)
    → ((i : ℕ) → i < n + 1 → at (set (set row n s) (2 * length e - 1 - n) d) i ≡ at e i +ℤ at b i)
    × ((i : ℕ) → i < n + 1 → at (set (set row n s) (2 * length e - 1 - n) d) (2 * length e - 1 - i) ≡ at e i -ℤ at b i)
spread_more e b row n s d hn lr es ed near far =
    let m = 2 * length e - 1 - n in
    let stored = set row n s in
    let known = length-set row n s in (
      λ i h. get_or-set_other stored m i d (pos 0) (λ k. omega arith)
          ∙ filled_more (pos 0) row (λ j. at e j +ℤ at b j) n s (omega arith) es near i h,
      below_more (λ (i : ℕ). at (set stored m d) (2 * length e - 1 - i) ≡ at e i -ℤ at b i) n
          (λ i h. get_or-set_other stored m (2 * length e - 1 - i) d (pos 0) (λ k. omega arith)
          ∙ get_or-set_other row n (2 * length e - 1 - i) s (pos 0) (λ k. omega arith)
          ∙ far i h)
          (get_or-set_same stored m d (pos 0) (omega (arith, known)) ∙ ed),
    )

pub loop-n-preserved : goal.loop-n-preserved
loop-n-preserved c =
    let n = c.loop-n.n in
    let p = at c.args.e.now n in
    let q = at c.args.b.now n in
    let small = c.requires.by_index n (omega arith) in
    let fp : SFits w32 p = search rules in
    let fq : SFits w32 q = search rules in
    let sum : SFits w32 (p +ℤ q) = fits (p +ℤ q) (omega (arith, magnitude-+ p q)) in
    let difference : SFits w32 (p -ℤ q) = fits (p -ℤ q) (omega (arith, magnitude-- p q)) in
    let next = spread_more c.args.e.now c.args.b.now c.loop-n.row n _ _ (omega arith) (omega arith)
    (grind (arith, to_z-of_z)) (grind (arith, to_z-of_z)) c.loop-n.invariant.near c.loop-n.invariant.far in
    record { near = next.0; far = next.1 }
