-- `unfold::dot16` meets its contract: with product k the sum still fits, and is that of k + 1 products.
use mathlib.Core.Path.{◌≡◌, refl, ap, ◌∙◌}
use Prim.Native.Nat.{ℕ, ◌+◌, ◌*◌, ◌<◌, ◌≤◌}
use native.Mathlib.Nat.{mul-le-mul}
use Rattle.std.proofs.Common.{arith, rules}
use Rattle.std.proofs.lemmas.Int.{to_z-of_z}
use lib.IntN.{ℤ, nat_abs, ◌+ℤ◌, ◌*ℤ◌}
use mir.Syntax.{w16, w32}
use mir.Val.{SFits, to_z, of_z}
use Rattle.integers.specs.Sum.{sum, on_ℤ, at}
use Rattle.integers.proofs.Magnitude.{magnitude-+, magnitude-*}
use Rattle.integers.proofs.Fit.{fits, magnitude_of}
use Rattle.integers.proofs.Sums.{sum_more}
use Rattle.unfold.proofs.dot16.Goals as goal

pub loop-k-init : goal.loop-k-init
unfolding sum
loop-k-init c = (refl, omega arith)

-- to the k products so far comes that of p and q
module _ (s : ℤ) (k : ℕ) (p q : ℤ) (fq : SFits w16 q) (small : nat_abs p ≤ 90) (so_far : nat_abs s ≤ k * 2949120) where
  product_small : nat_abs p * nat_abs q ≤ 2949120
  product_small = mul-le-mul small (magnitude_of q fq)

  product : SFits w32 (p *ℤ q)
  product = fits (p *ℤ q) (omega (arith, product_small, magnitude-* p q))

  total : k < 16 → SFits w32 (s +ℤ p *ℤ q)
  total le = fits (s +ℤ p *ℤ q) (omega (arith, product_small, magnitude-* p q, magnitude-+ s (p *ℤ q)))

  total_small : nat_abs (s +ℤ p *ℤ q) ≤ (k + 1) * 2949120
  total_small = omega (arith, product_small, magnitude-+ s (p *ℤ q), magnitude-* p q)

pub overflow_add-sum : goal.overflow_add-sum
overflow_add-sum c =
    let l = c.loop-k in
    let p = at c.args.t.now l.k in
    let q = at c.args.o.now l.k in
    let s = to_z w32 l.sum-bits in
    let fp : SFits w16 p = search rules in
    let fq : SFits w16 q = search rules in
    let small = c.requires.by_index l.k (omega arith) in
    let f = product s l.k p q fq small l.invariant.1 in
    let g = total s l.k p q fq small l.invariant.1 (omega arith) in
    grind (arith, to_z-of_z)

pub loop-k-preserved : goal.loop-k-preserved
loop-k-preserved c =
    let l = c.loop-k in
    let t = c.args.t.now in
    let o = c.args.o.now in
    let p = at t l.k in
    let q = at o l.k in
    let s = to_z w32 l.sum-bits in
    let fp : SFits w16 p = search rules in
    let fq : SFits w16 q = search rules in
    let small = c.requires.by_index l.k (omega arith) in
    let f = product s l.k p q fq small l.invariant.1 in
    let g = total s l.k p q fq small l.invariant.1 (omega arith) in
    let x = to_z w32 (of_z w32 c.from.result) in
    let y = to_z w32 (of_z w32 c.from-in-loop-k.result) in
    let is : to_z w32 (of_z w32 (s +ℤ to_z w32 (of_z w32 (x *ℤ y)))) ≡ s +ℤ p *ℤ q = grind (arith, to_z-of_z) in (
      is ∙ sum_more on_ℤ l.k (λ i. at t i *ℤ at o i) l.invariant.0,
      omega (arith, ap nat_abs is, total_small s l.k p q fq small l.invariant.1),
    )
