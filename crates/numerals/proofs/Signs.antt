-- A sample by its sign: read from a word that may begin with `-`.
use Rattle.std.proofs.Common.{Some, None}
use mathlib.Core.Path.{◌≡◌, refl, sym, ap, ◌∙◌}
use mathlib.Core.List.{List, [], ◌∷◌}
use native.Mathlib.Nat.{zero-add}
use Prim.Native.Nat.{ℕ, zero, suc, ◌-◌, ◌<◌, ◌≤◌}
use native.Mathlib.Omega.{arith}
use borrow.Author.Tests.{eq-eqb, ne_eqb}
use lib.ListN.{length, get_or, take, drop}
use lib.IntN.{pos, negsuc, ◌-ℤ◌}
use mir.Syntax.{w16}
use mir.Val.{to_z, of_z, SFits}
use mir.Facts.{to_z-of_z, to_z_pos}
use lib.Seq.{take_all}
use Rattle.numerals.specs.Number.{natural_up_to, negative_of, positive_of, sample_of}

pub behind_minus : (w : List ℕ) → (length w ≡ 0 → ⊥) → get_or w 0 0 ≡ 45
    → sample_of w ≡ negative_of (natural_up_to 32768 (take (length w - 1) (drop 1 w)))
unfolding sample_of
behind_minus [] h e = absurd (h refl)
behind_minus (b ∷ w) h e =
    rw (eq-eqb b 45 e) (ap (λ (l : List ℕ). negative_of (natural_up_to 32768 l))
    (sym (take_all (length (b ∷ w) - 1) w (omega arith))))

pub nothing : (w : List ℕ) → length w < 1 → None ≡ sample_of w
unfolding sample_of
nothing [] h = refl
nothing (b ∷ w) h = absurd (let no : ⊥ = omega arith in no)

pub plain : (w : List ℕ) → 0 < length w → (get_or w 0 0 ≡ 45 → ⊥) → sample_of w ≡ positive_of (natural_up_to 32767 w)
unfolding sample_of
plain [] h e = absurd (let no : ⊥ = omega arith in no)
plain (b ∷ w) h e = rw (ne_eqb b 45 e) refl

-- what the number behind a `-` makes
pub no_negative : negative_of None ≡ None
unfolding negative_of
no_negative = refl

pub no_minus_zero : (n : ℕ) → n ≡ 0 → negative_of (Some n) ≡ None
unfolding negative_of
no_minus_zero n e = rw (eq-eqb n 0 e) refl

less : (m : ℕ) → negsuc 0 -ℤ pos m ≡ negsuc m
less zero = refl
less (suc k) = ap negsuc (ap suc (zero-add k))

negative : (n : ℕ) → (n ≡ 0 → ⊥) → negative_of (Some n) ≡ Some (negsuc (n - 1))
unfolding negative_of
negative zero h = absurd (h refl)
negative (suc m) h =
    let same : m ≡ suc m - 1 = omega arith in
    rw (ne_eqb (suc m) 0 h) (ap (λ (k : ℕ). Some (negsuc k)) same)

-- -1 - (n - 1), as the machine has it
module _ (n : ℕ) (h : n ≡ 0 → ⊥) (k : n ≤ 32768) where
  pub one_less_fits : SFits w16 (pos (n - 1))
  one_less_fits = record { sfits = omega arith }

  pub minus_fits : SFits w16 (negsuc 0 -ℤ to_z w16 (n - 1))
  minus_fits = rw (to_z_pos w16 {n = n - 1} (omega arith), less) (record { sfits = omega arith })

  pub a_negative : Some (to_z w16 (of_z w16 (negsuc 0 -ℤ to_z w16 (n - 1)))) ≡ negative_of (Some n)
  a_negative = ap Some (to_z-of_z minus_fits ∙ rw (to_z_pos w16 {n = n - 1} (omega arith), less) refl)
      ∙ sym (negative n h)

pub no_positive : positive_of None ≡ None
unfolding positive_of
no_positive = refl

module _ (n : ℕ) (k : n ≤ 32767) where
  pub plain_fits : SFits w16 (pos n)
  plain_fits = record { sfits = omega arith }

  pub a_positive : Some (to_z w16 n) ≡ positive_of (Some n)
  unfolding positive_of
  a_positive = ap Some (to_z_pos w16 {n = n} (omega arith))
