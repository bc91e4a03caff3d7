-- The ring laws of the integers that the kit lacks: regrouping, the product over a sum and a negation, its
-- associativity.
-- Assumes nothing.
use mathlib.Core.Path.{◌≡◌, sym, ◌∙◌, ap}
use Prim.Native.Nat.{ℕ, zero, suc}
use native.Mathlib.Omega.{arith}
use lib.IntN.{ℤ, pos, negsuc, pred_ℤ, neg_ℤ, ◌+ℤ◌, ◌-ℤ◌, ◌*ℤ◌, +ℤ_idl, +ℤ_invr, suc_ℤ-+ℤ, pred_ℤ-+ℤ, suc_ℤ-*ℤ, pred_ℤ-*ℤ}
use lib.IntN.{zero-*ℤ, *ℤ_comm}
use Rattle.integers.proofs.Parts.{+-parts, eq_of_parts, neg_unique}

pub +-middle : (a b c d : ℤ) → (a +ℤ b) +ℤ (c +ℤ d) ≡ (a +ℤ c) +ℤ (b +ℤ d)
+-middle a b c d =
    eq_of_parts _ _
    (omega
    (arith, +-parts a b, +-parts c d, +-parts (a +ℤ b) (c +ℤ d), +-parts a c, +-parts b d, +-parts (a +ℤ c) (b +ℤ d)))

+-right : (a b c : ℤ) → (a +ℤ b) +ℤ c ≡ (a +ℤ c) +ℤ b
+-right a b c =
    eq_of_parts _ _ (omega (arith, +-parts a b, +-parts (a +ℤ b) c, +-parts a c, +-parts (a +ℤ c) b))

-- ---- the product over a sum, by induction on the first summand, up from 0 and down from it
dist_up : (n : ℕ) (b m : ℤ) → (pos n +ℤ b) *ℤ m ≡ pos n *ℤ m +ℤ b *ℤ m
dist_up zero b m =
    ap (λ (x : ℤ). x *ℤ m) (+ℤ_idl b) ∙ sym (ap (λ (x : ℤ). x +ℤ b *ℤ m) (zero-*ℤ m) ∙ +ℤ_idl (b *ℤ m))
dist_up (suc n) b m =
    ap (λ (x : ℤ). x *ℤ m) (suc_ℤ-+ℤ (pos n) b)
    ∙ suc_ℤ-*ℤ (pos n +ℤ b) m
    ∙ ap (λ (x : ℤ). x +ℤ m) (dist_up n b m)
    ∙ +-right (pos n *ℤ m) (b *ℤ m) m
    ∙ ap (λ (x : ℤ). x +ℤ b *ℤ m) (sym (suc_ℤ-*ℤ (pos n) m))

dist_pred : (a b m : ℤ) → (a +ℤ b) *ℤ m ≡ a *ℤ m +ℤ b *ℤ m → (pred_ℤ a +ℤ b) *ℤ m ≡ pred_ℤ a *ℤ m +ℤ b *ℤ m
dist_pred a b m e =
    ap (λ (x : ℤ). x *ℤ m) (pred_ℤ-+ℤ a b)
    ∙ pred_ℤ-*ℤ (a +ℤ b) m
    ∙ ap (λ (x : ℤ). x -ℤ m) e
    ∙ +-right (a *ℤ m) (b *ℤ m) (neg_ℤ m)
    ∙ ap (λ (x : ℤ). x +ℤ b *ℤ m) (sym (pred_ℤ-*ℤ a m))

dist_down : (n : ℕ) (b m : ℤ) → (negsuc n +ℤ b) *ℤ m ≡ negsuc n *ℤ m +ℤ b *ℤ m
dist_down zero b m = dist_pred (pos zero) b m (dist_up zero b m)
dist_down (suc n) b m = dist_pred (negsuc n) b m (dist_down n b m)

pub dist_right : (a b m : ℤ) → (a +ℤ b) *ℤ m ≡ a *ℤ m +ℤ b *ℤ m
dist_right (pos n) b m = dist_up n b m
dist_right (negsuc n) b m = dist_down n b m

pub dist_left : (m a b : ℤ) → m *ℤ (a +ℤ b) ≡ m *ℤ a +ℤ m *ℤ b
dist_left m a b =
    *ℤ_comm m (a +ℤ b)
    ∙ dist_right a b m
    ∙ ap (λ (x : ℤ). x +ℤ b *ℤ m) (*ℤ_comm a m)
    ∙ ap (λ (x : ℤ). m *ℤ a +ℤ x) (*ℤ_comm b m)

-- ---- negations
pub neg-+ : (a b : ℤ) → neg_ℤ (a +ℤ b) ≡ neg_ℤ a +ℤ neg_ℤ b
neg-+ a b =
    sym (neg_unique (a +ℤ b) (neg_ℤ a +ℤ neg_ℤ b)
    (+-middle a b (neg_ℤ a) (neg_ℤ b) ∙ ap (λ (x : ℤ). x +ℤ (b +ℤ neg_ℤ b)) (+ℤ_invr a) ∙ +ℤ_idl (b +ℤ neg_ℤ b)
    ∙ +ℤ_invr b))

pub neg-* : (a m : ℤ) → neg_ℤ a *ℤ m ≡ neg_ℤ (a *ℤ m)
neg-* a m =
    neg_unique (a *ℤ m) (neg_ℤ a *ℤ m)
    (sym (dist_right a (neg_ℤ a) m) ∙ ap (λ (x : ℤ). x *ℤ m) (+ℤ_invr a) ∙ zero-*ℤ m)

pub *-neg : (m a : ℤ) → m *ℤ neg_ℤ a ≡ neg_ℤ (m *ℤ a)
*-neg m a = *ℤ_comm m (neg_ℤ a) ∙ neg-* a m ∙ ap neg_ℤ (*ℤ_comm a m)

-- ---- associativity
assoc_up : (n : ℕ) (b c : ℤ) → (pos n *ℤ b) *ℤ c ≡ pos n *ℤ (b *ℤ c)
assoc_up zero b c = ap (λ (x : ℤ). x *ℤ c) (zero-*ℤ b) ∙ zero-*ℤ c ∙ sym (zero-*ℤ (b *ℤ c))
assoc_up (suc n) b c =
    ap (λ (x : ℤ). x *ℤ c) (suc_ℤ-*ℤ (pos n) b)
    ∙ dist_right (pos n *ℤ b) b c
    ∙ ap (λ (x : ℤ). x +ℤ b *ℤ c) (assoc_up n b c)
    ∙ sym (suc_ℤ-*ℤ (pos n) (b *ℤ c))

pub *-assoc : (a b c : ℤ) → (a *ℤ b) *ℤ c ≡ a *ℤ (b *ℤ c)
*-assoc (pos n) b c = assoc_up n b c
*-assoc (negsuc n) b c =
    ap (λ (x : ℤ). x *ℤ c) (neg-* (pos (suc n)) b)
    ∙ neg-* (pos (suc n) *ℤ b) c
    ∙ ap neg_ℤ (assoc_up (suc n) b c)
    ∙ sym (neg-* (pos (suc n)) (b *ℤ c))
