-- The cheaper of m and m - 1 does not depend on the level before, whose price is in both; and the tests by which code
-- finds it. The walk and the search weigh it against 0.
use mathlib.Core.Path.{◌≡◌, refl, sym, ap, ◌∙◌}
use mathlib.Core.Logic.{◌⊎◌, inl, inr}
use mathlib.Core.Bool.{Bool, true, false, cond}
use Prim.Native.Nat.{ℕ, zero, suc, ◌+◌, ◌-◌, ◌*◌, ◌≤◌, ◌<◌, ◌^◌}
use native.Mathlib.Nat.{mul-le-mul_right}
use Rattle.std.proofs.Math.Arith.{lt_of_le-ne}
use native.Mathlib.Omega.{arith}
use lib.Dec.{ltb}
use borrow.Author.Tests.{ltb-true, ltb-false, lt-ltb, le-ltb, ne_eqb}
use Rattle.price.specs.Level.{nearest}
use Rattle.price.specs.Rule.{cost}
use Rattle.price.specs.Walk.{cheaper}
use Rattle.scaling.specs.declared.scale.Scale.{Scale}
use Rattle.scaling.specs.Inner.Scale.{Distortion}
use Rattle.weights.specs.declared.prices.Prices.{Prices}
use Rattle.weights.specs.Inner.Prices.{Fine, Priced, head_price, rate_by, rule_by}
use Rattle.weights.specs.Inner.Offers.{bare, first_of, offered, Offered}

-- ---- the cheaper of two
pub by : (f : ℕ → ℕ) (a b : ℕ) (t : Bool) → ltb (f b) (f a) ≡ t → cheaper f a b ≡ cond t b a
unfolding cheaper
by f a b t e = ap (λ (s : Bool). cond s b a) e

pub other_cheaper : (f : ℕ → ℕ) (a b : ℕ) → f b < f a → cheaper f a b ≡ b
other_cheaper f a b h = by f a b true (lt-ltb (f b) (f a) h)

pub first_cheaper : (f : ℕ → ℕ) (a b : ℕ) → f a ≤ f b → cheaper f a b ≡ a
first_cheaper f a b h = by f a b false (le-ltb (f b) (f a) h)

shift : (h x y : ℕ) (t : Bool) → ltb x y ≡ t → ltb (x + h) (y + h) ≡ t
shift h x y true e = let p = ltb-true x y e in lt-ltb (x + h) (y + h) (omega arith)
shift h x y false e = let p = ltb-false x y e in le-ltb (x + h) (y + h) (omega arith)

pub same_offer : (f g : ℕ → ℕ) (h a b : ℕ) → f a ≡ g a + h → f b ≡ g b + h → cheaper f a b ≡ cheaper g a b
unfolding cheaper
same_offer f g h a b p q =
    let e : ltb (f b) (f a) ≡ ltb (g b) (g a) = rw (p, q) (shift h (g b) (g a) (ltb (g b) (g a)) refl) in
    ap (λ (s : Bool). cond s b a) e

pub some_left : (m n : ℕ) → (m ≡ 1 → ⊥) → 1 ≤ m → n ≡ m - 1 → 1 ≤ n
some_left zero n h o e = absurd (omega arith)
some_left (suc zero) n h o e = absurd (h refl)
some_left (suc (suc k)) n h o e = omega arith

module _ (p : Prices) (g : Scale) where
  pub cost_by : (z : Bool) (L a : ℕ) → cost (rule_by p g) z L (suc a) ≡ bare p g L (suc a) + head_price p z
  unfolding cost rule_by rate_by bare
  cost_by z L a = omega arith

-- ---- the offer
module _ (p : Prices) (g : Scale) (L : ℕ) where
  pub each_below : Fine p g L → (a : ℕ) → a ≤ nearest g.shift L → a * p.each ≤ 2 ^ 61
  each_below f a h = omega (arith, f.price, mul-le-mul_right p.each h)

  pub bare_is : (a d r : ℕ) → Distortion g L a d → Priced p a r → d + r ≡ bare p g L a
  unfolding bare
  bare_is a d r hd hr = rw (hd.is, hr.is)

  pub offer_one : (first : Bool) (m c : ℕ) → m ≡ nearest g.shift L → m ≡ 1 → c ≡ bare p g L m → c ≤ 2 ^ 61 + 2 ^ 59
      → Offered first p g L (record { level = m; price = c })
  unfolding offered
  offer_one first m c e h q b =
      let r : nearest g.shift L ≡ 1 = sym e ∙ h in record { is = rw r h; price = q; some = omega arith; small = b }

  module _ (first : Bool) (m n c d : ℕ) (e : m ≡ nearest g.shift L) (h : m ≡ 1 → ⊥) (o : 1 ≤ m) (en : n ≡ m - 1)
      (qc : c ≡ bare p g L m)
      (qd : d ≡ bare p g L n) (b : c ≤ 2 ^ 61 + 2 ^ 59) where
    offer_is : offered first p g L ≡ first_of first (bare p g L) m n
    unfolding offered
    offer_is = rw (sym e, ne_eqb m 1 h, sym en)

    lower : d ≤ c → first_of first (bare p g L) m n ≡ n → Offered first p g L (record { level = n; price = d })
    lower l q = record { is = sym (offer_is ∙ q); price = qd; some = some_left m n h o en; small = omega arith }

    upper : first_of first (bare p g L) m n ≡ m → Offered first p g L (record { level = m; price = c })
    upper q = record { is = sym (offer_is ∙ q); price = qc; some = o; small = b }

    pub offer_less : d < c → Offered first p g L (record { level = n; price = d })
    offer_less l =
        let x : bare p g L n < bare p g L m = omega (arith, qc, qd) in
        lower (omega arith) (which first x)
      where
        which : (t : Bool) → bare p g L n < bare p g L m → first_of t (bare p g L) m n ≡ n
        which true x = first_cheaper (bare p g L) n m (omega arith)
        which false x = other_cheaper (bare p g L) m n x

    pub offer_tied : first ≡ true → d ≡ c → Offered first p g L (record { level = n; price = d })
    offer_tied t l = lower (omega arith) (rw t (first_cheaper (bare p g L) n m (omega (arith, qc, qd))))

    -- at no tie, or where the lower does not go first
    pub offer_upper : ((first ≡ true) × (d ≡ c → ⊥)) ⊎ (first ≡ false) → c ≤ d
        → Offered first p g L (record { level = m; price = c })
    offer_upper (inr t) l = upper (rw t (first_cheaper (bare p g L) m n (omega (arith, qc, qd))))
    offer_upper (inl t) l = upper (which first)
      where
        which : (s : Bool) → first_of s (bare p g L) m n ≡ m
        which true =
            let x : bare p g L m < bare p g L n = omega (arith, qc, qd, lt_of_le-ne l (λ e. t.1 (sym e))) in
            other_cheaper (bare p g L) n m x
        which false = first_cheaper (bare p g L) m n (omega (arith, qc, qd))
