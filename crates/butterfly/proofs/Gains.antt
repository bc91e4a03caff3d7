-- The odd half of a line, gathered value by value: before the turn n each output has gained the first n products, and
-- with the next one it still fits. The column of the table that is handed on is the part from n·h of length h.
use mathlib.Core.Path.{◌≡◌, refl, sym, ◌∙◌, ap, subst}
use mathlib.Core.List.{List}
use Prim.Native.Nat.{ℕ, suc, ◌+◌, ◌-◌, ◌*◌, ◌^◌, ◌<◌, ◌≤◌}
use native.Mathlib.Omega.{arith}
use lib.ListN.{length, take, drop}
use Rattle.std.proofs.Common.{map}
use lib.Seq.{get_or-take, get_or-drop}
use Rattle.std.proofs.lemmas.List.{take-map, drop-map}
use lib.IntN.{ℤ, pos, nat_abs, ◌+ℤ◌, ◌*ℤ◌}
use Rattle.integers.specs.Sum.{sum, on_ℤ, on_ℕ, sum_ℕ, at}
use Rattle.integers.proofs.Sums.{sum_suc, sum_more}
use Rattle.integers.proofs.Dot.{magnitude_products, sum_part}
use Rattle.butterfly.specs.Inner.Lines.{gained, spent}

pub gained_none : (t o : List ℤ) (k : ℕ) → gained t o 0 k ≡ pos 0
unfolding sum
gained_none t o k = refl

-- the part that is handed on
pub column_at : {X : Type 0} (f : X → ℤ) (t : List X) (h h' n k : ℕ) → h' ≡ h → k < h'
    → at (map f (take (n * h + h - n * h) (drop (n * h) t))) k ≡ at (map f t) (n * h' + k)
column_at f t h h' n k e hk =
    ap (λ (l : List ℤ). at l k) (sym (take-map f (n * h + h - n * h) (drop (n * h) t)))
    ∙ get_or-take (n * h + h - n * h) (map f (drop (n * h) t)) k (pos 0) (omega arith)
    ∙ ap (λ (l : List ℤ). at l k) (sym (drop-map f (n * h) t))
    ∙ get_or-drop (n * h) (map f t) k (pos 0)
    ∙ ap (λ (m : ℕ). at (map f t) (n * m + k)) (sym e)

-- `now` is b before the turn n, v the value that it takes, and column what that meets
module _ (t o now column : List ℤ) (n : ℕ) (v : ℤ) (hn : n < length o) (ev : v ≡ at o n)
    (ec : (k : ℕ) → k < length o → at column k ≡ at t (n * length o + k))
    (inv : (k : ℕ) → k < length o → at now k ≡ gained t o n k) where
  pub turn_fits : ((k : ℕ) → k < length o → spent t o (length o) k < 2 ^ 31) → (k : ℕ) → k < length o
      → nat_abs (at now k) + nat_abs (at column k) * nat_abs v < 2 ^ 31
  turn_fits s k h =
      let term : ℕ → ℕ = λ i. nat_abs (at t (i * length o + k)) * nat_abs (at o i) in
      let whole : sum_ℕ (suc n) term ≤ sum_ℕ (length o) term = sum_part (suc n) (length o) term hn in
      let front : sum_ℕ (suc n) term ≡ sum_ℕ n term + term n = sum_suc on_ℕ n term in
      let size : nat_abs (gained t o n k) ≤ sum_ℕ n term = magnitude_products n (λ i. at t (i * length o + k)) (at o) in
      subst (λ (z : ℤ). nat_abs (at now k) + nat_abs (at column k) * nat_abs z < 2 ^ 31) (sym ev)
      (subst (λ (z : ℤ). nat_abs (at now k) + nat_abs z * nat_abs (at o n) < 2 ^ 31) (sym (ec k h))
      (subst (λ (z : ℤ). nat_abs z + nat_abs (at t (n * length o + k)) * nat_abs (at o n) < 2 ^ 31) (sym (inv k h))
      (omega (arith, s k h))))

  pub turn_gains : (k : ℕ) → k < length o → at now k +ℤ at column k *ℤ v ≡ gained t o (n + 1) k
  turn_gains k h =
      ap (λ (z : ℤ). at now k +ℤ z *ℤ v) (ec k h)
      ∙ ap (λ (z : ℤ). at now k +ℤ at t (n * length o + k) *ℤ z) ev
      ∙ sum_more on_ℤ n (λ i. at t (i * length o + k) *ℤ at o i) (inv k h)
