-- Dictionary order of lists of one length: of the blocks as cheap as each other the first in it is taken. Assumes
-- nothing.
use Rattle.std.proofs.Common.{◌≡◌, ℕ, ◌<◌, ◌≤◌, Bool, true, false, ltb, List, [], ◌∷◌, refl, ◌∙◌, arith}
use Rattle.std.proofs.Common.{ltb-false, ltb-true}
use Rattle.price.proofs.Best.{Order}

pub data Before : List ℕ → List ℕ → Type 0 where
  both : Before [] []
  less : {a b : ℕ} {k l : List ℕ} → a < b → Before (a ∷ k) (b ∷ l)
  same : {a b : ℕ} {k l : List ℕ} → a ≡ b → Before k l → Before (a ∷ k) (b ∷ l)

before_itself : (l : List ℕ) → Before l l
before_itself [] = both
before_itself (a ∷ l) = same refl (before_itself l)

before_onward : (j k l : List ℕ) → Before j k → Before k l → Before j l
before_onward [] [] (c ∷ l) _ x7 = elim x7 [ ]
before_onward [] (b ∷ k) l x5 _ = elim x5 [ ]
before_onward (a ∷ j) [] l x5 _ = elim x5 [ ]
before_onward (a ∷ j) (b ∷ k) [] _ x9 = elim x9 [ ]
before_onward [] [] [] both both = both
before_onward (a ∷ j) (b ∷ k) (c ∷ l) (less h) (less g) = let q : a < c = omega arith in less q
before_onward (a ∷ j) (b ∷ k) (c ∷ l) (less h) (same e g) = let q : a < c = omega arith in less q
before_onward (a ∷ j) (b ∷ k) (c ∷ l) (same e h) (less g) = let q : a < c = omega arith in less q
before_onward (a ∷ j) (b ∷ k) (c ∷ l) (same e h) (same q g) = same (e ∙ q) (before_onward j k l h g)

before_no_two : (k l : List ℕ) → Before k l → Before l k → k ≡ l
before_no_two [] (b ∷ l) x4 _ = elim x4 [ ]
before_no_two (a ∷ k) [] x5 _ = elim x5 [ ]
before_no_two [] [] both both = refl
before_no_two (a ∷ k) (b ∷ l) (less h) (less g) = absurd (omega arith)
before_no_two (a ∷ k) (b ∷ l) (less h) (same e g) = absurd (omega arith)
before_no_two (a ∷ k) (b ∷ l) (same e h) (less g) = absurd (omega arith)
before_no_two (a ∷ k) (b ∷ l) (same e h) (same q g) = cc (before_no_two k l h g)

pub dictionary : Order Before
dictionary = record { itself = before_itself; onward = before_onward; no_two = before_no_two }

pub before_led : (a b : ℕ) {k l : List ℕ} → a ≤ b → Before k l → Before (a ∷ k) (b ∷ l)
before_led a b {k} {l} h g = go (ltb a b) refl
  where
    go : (t : Bool) → ltb a b ≡ t → Before (a ∷ k) (b ∷ l)
    go true e = less (ltb-true a b e)
    go false e = same {a = a} {b = b} (omega (arith, ltb-false a b e)) g
