-- The place that lies farthest by a distance of each, among one more each turn: a turn of `worst_by`.
use mathlib.Core.Path.{◌≡◌, refl}
use mathlib.Core.Bool.{Bool, true, false, cond}
use Prim.Native.Nat.{ℕ, ◌+◌, ◌≤◌}
use native.Mathlib.Omega.{arith}
use borrow.Author.Tests.{ltb-true, ltb-false}
use borrow.Author.Count.{below_more}
use lib.Dec.{ltb}
use Rattle.shown.specs.declared.Worst.{Worst}
use Rattle.shown.specs.Shown.{Farthest, farther_of}

module _ (by : ℕ → ℕ) where
  by_test : (best : Worst) (p d : ℕ) → d ≡ by p → Farthest by p best → (t : Bool)
      → ltb best.most d ≡ t → Farthest by (p + 1) (cond t (record { most = d; at = p }) best)
  by_test best p d e f true t =
      let less = ltb-true best.most d t in
      record {
        within = omega arith;
        is = e;
        none = below_more (λ (q : ℕ). by q ≤ d) p (λ q h. omega (arith, f.none q h)) (omega arith);
        first = λ q h. omega (arith, f.none q h);
      }
  by_test best p d e f false t =
      let more = ltb-false best.most d t in
      record {
        within = omega (arith, f.within);
        is = f.is;
        none = below_more (λ (q : ℕ). by q ≤ best.most) p f.none (omega arith);
        first = f.first;
      }

  pub further : (best : Worst) (p d : ℕ) → d ≡ by p → Farthest by p best
      → Farthest by (p + 1) (farther_of best d p)
  unfolding farther_of
  further best p d e f = by_test best p d e f (ltb best.most d) refl
