-- `rescale::whole` meets its contract: with a part the first k + 1 parts are replaced, with the rest all.
use mathlib.Core.Path.{◌≡◌, ap, subst, ◌∙◌}
use mathlib.Core.List.{List, map}
use Prim.Native.Nat.{ℕ, ◌+◌, ◌-◌, ◌*◌, ◌/◌, ◌≤◌}
use native.Mathlib.Omega.{arith}
use borrow.Rule.Slice.PartMut.{mid_of, put_mid, mid_len}
use lib.ListN.{length, get_or-replicate}
use lib.IntN.{ℤ, pos}
use mir.Syntax.{w16}
use mir.Val.{to_z}
use mir.Facts.{to_z_pos}
use Rattle.integers.proofs.Replace.{Replaced, replaced_part, replaced_all}
use Rattle.rescale.specs.Inner.Step.{stepped}
use Rattle.rescale.proofs.whole.Goals as goal

-- k levels from a on are replaced, in a block ys of which those before them are
part_replaced : (times half down : ℕ) (xs ys new : List ℤ) (a k : ℕ) → times ≤ 18432 → a ≤ length xs
    → new ≡ map (stepped (to_z w16 times) half down) (mid_of a k ys)
    → Replaced (stepped (pos times) half down) xs a ys
    → Replaced (stepped (pos times) half down) xs (a + k) (put_mid a k ys new)
part_replaced times half down xs ys new a k h ha is was =
    let factor : to_z w16 times ≡ pos times = to_z_pos w16 (omega arith) in
    ap (λ (zs : List ℤ). put_mid a k ys zs) (is ∙ ap (λ (f : ℤ). map (stepped f half down) (mid_of a k ys)) factor)
    ∙ replaced_part (stepped (pos times) half down) xs ys a ha was k

pub part-requires-clause-by_index : goal.part-requires-clause-by_index
part-requires-clause-by_index c = λ i h.
    let long = mid_len (64 * c.loop-k.k) (64 * c.loop-k.k + 64) c.loop-k.block (omega arith) in
    get_or-replicate 64 i (to_z w16 c.args.times) (pos 0) (omega arith)

pub loop-k-preserved : goal.loop-k-preserved
loop-k-preserved c =
    let l = c.loop-k in
    let a = c.args in
    let start = 64 * l.k in
    let ends : start + (start + 64 - start) ≡ 64 * (l.k + 1) = omega arith in
    let f = stepped (pos a.times) a.half a.down in
    subst (λ (n : ℕ). Replaced f a.block.now n (put_mid start (start + 64 - start) l.block c.part.new.block)) ends
    (part_replaced a.times a.half a.down a.block.now l.block c.part.new.block start (start + 64 - start) c.requires.0
    (omega arith) c.part.ensures l.invariant)

pub part-requires-2-clause-by_index : goal.part-requires-2-clause-by_index
part-requires-2-clause-by_index c = λ i h.
    let start = 64 * (length c.args.block.now / 64) in
    let long = mid_len start (length c.loop-k.block) c.loop-k.block (omega arith) in
    get_or-replicate 64 i (to_z w16 c.args.times) (pos 0) (omega arith)

pub returns : goal.returns
returns c =
    let l = c.loop-k in
    let a = c.args in
    let xs = a.block.now in
    let f = stepped (pos a.times) a.half a.down in
    let start = 64 * (length xs / 64) in
    let k = length l.block - start in
    let all : 64 * l.k ≡ start = omega arith in
    let was = subst (λ (n : ℕ). Replaced f xs n l.block) all l.invariant in
    replaced_all f xs _ (start + k)
    (omega arith)
    (part_replaced a.times a.half a.down xs l.block c.part-2.new.block start k c.requires.0 (omega arith)
    c.part-2.ensures was)
    (omega arith)
