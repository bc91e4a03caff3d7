-- Of the first n fates none comes more than n times, so that a count fits; and how a tally grows by one fate.
use mathlib.Core.Path.{◌≡◌, refl, sym, ap, subst, ◌∙◌}
use Prim.Native.Nat.{ℕ, zero, suc, ◌+◌, ◌≤◌, zero-le}
use native.Mathlib.Numerals.{add-one}
use native.Mathlib.Omega.{arith}
use Rattle.fates.specs.declared.Fate.{Fate}
use Rattle.fates.specs.declared.Fate.TheVariants.{Nothing, Kept, Lowered, Dropped, Other}
use Rattle.fates.specs.declared.Tally.{Tally}
use Rattle.fates.specs.Fate.{none_yet, counted, tally_of, Most}

module _ (n : ℕ) (t : Tally) (m : Most n t) where
  pub counted_most : (fate : Fate) → Most (suc n) (counted t fate)
  counted_most Nothing =
      record { kept = omega arith; lowered = omega arith; dropped = omega arith; other = omega arith }
  counted_most Kept =
      record { kept = omega arith; lowered = omega arith; dropped = omega arith; other = omega arith }
  counted_most Lowered =
      record { kept = omega arith; lowered = omega arith; dropped = omega arith; other = omega arith }
  counted_most Dropped =
      record { kept = omega arith; lowered = omega arith; dropped = omega arith; other = omega arith }
  counted_most Other =
      record { kept = omega arith; lowered = omega arith; dropped = omega arith; other = omega arith }

pub tally_most : (fates : ℕ → Fate) (n : ℕ) → Most n (tally_of fates n)
unfolding tally_of
tally_most fates zero = record { kept = zero-le; lowered = zero-le; dropped = zero-le; other = zero-le }
tally_most fates (suc n) = counted_most n (tally_of fates n) (tally_most fates n) (fates n)

nothing : {a b c d : ℕ} → a ≡ 0 → b ≡ 0 → c ≡ 0 → d ≡ 0
    → ◌≡◌ {A = Tally} (record { kept = a; lowered = b; dropped = c; other = d }) none_yet
nothing e f g h = rw (e, f, g, h) refl

module _ (fates : ℕ → Fate) where
  -- a tally with nothing in it
  pub tally_none : {t : Tally} → (t.kept ≡ 0) × ((t.lowered ≡ 0) × ((t.dropped ≡ 0) × (t.other ≡ 0))) → t ≡ tally_of fates 0
  unfolding tally_of
  tally_none {t} e = nothing e.0 e.1.0 e.1.1.0 e.1.1.1

  pub tally_below : (n m : ℕ) → n ≤ m → {t : Tally} → t ≡ tally_of fates n → Most m t
  tally_below n m h {t} e =
      let b = subst (λ (t : Tally). Most n t) (sym e) (tally_most fates n) in
      record { kept = omega arith; lowered = omega arith; dropped = omega arith; other = omega arith }

  pub tally_more : (n : ℕ) {t more : Tally} {fate : Fate} → t ≡ tally_of fates n → fate ≡ fates n → more ≡ counted t fate
      → more ≡ tally_of fates (n + 1)
  unfolding tally_of
  tally_more n {fate = fate} e f g =
      rw (add-one n) (g ∙ ap (λ (t : Tally). counted t fate) e ∙ ap (λ (x : Fate). counted (tally_of fates n) x) f)
