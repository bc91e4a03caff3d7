-- There and back: rows t of n weights, applied to the values from both sides and then turned from both sides, come to
-- the products of columns with columns. What is near before a sum of products is near behind it, by the weights'
-- magnitudes; and where the columns are nearly at right angles, what comes back is near a multiple of what went.
use mathlib.Core.Path.{◌≡◌, refl, sym, ap, ◌∙◌}
use mathlib.Core.Logic.{⊎_elim}
use mathlib.Core.Bool.{cond}
use Prim.Native.Nat.{ℕ, zero, suc, ◌+◌, ◌*◌, ◌≤◌, ◌<◌}
use native.Mathlib.Nat.{add-mul, mul-le-mul_left, mul-le-mul_right, not-suc-le-zero, le_of_suc-le-suc}
use native.Mathlib.Nat.{eq-or-lt_of_le}
use native.Mathlib.Omega.{arith}
use borrow.Author.Tests.{ne_eqb, eq-eqb}
use lib.Dec.{eqb}
use lib.IntN.{ℤ, pos, nat_abs, ◌+ℤ◌, ◌-ℤ◌, ◌*ℤ◌, *ℤ_comm, zero-*ℤ, +ℤ_idl, +ℤ_idr}
use Rattle.integers.specs.Sum.{sum, on_ℤ, sum_ℤ, sum_ℕ}
use Rattle.integers.proofs.Ring.{dist_right, *-assoc}
use Rattle.integers.proofs.Magnitude.{magnitude-*}
use Rattle.integers.proofs.Sums.{ints, sum_ext, sum_swap, sum_map, sum_nought}
use Rattle.integers.proofs.Fold.{sum_times}
use Rattle.integers.proofs.Dot.{weighted_within}
use Rattle.reach.proofs.Near.{Near, near_is, near_within, near_through, near_difference, near_size, near-+}
use Rattle.reach.proofs.Near.{near_times, near_left, near_right}

-- a sum of products, and the product of two columns
abbrev pub dot : (n : ℕ) (t a : ℕ → ℤ) → ℤ
dot n t a = sum_ℤ n (λ i. t i *ℤ a i)

abbrev pub gram : (n : ℕ) → (ℕ → ℕ → ℤ) → ℕ → ℕ → ℤ
gram n t y i = sum_ℤ n (λ v. t v y *ℤ t v i)

-- ---- laws of sums of products
*-swap : (a b c : ℤ) → a *ℤ (b *ℤ c) ≡ b *ℤ (a *ℤ c)
*-swap a b c = sym (*-assoc a b c) ∙ ap (λ (z : ℤ). z *ℤ c) (*ℤ_comm a b) ∙ *-assoc b a c

sum_factor : (n : ℕ) (f : ℕ → ℤ) (k : ℤ) → sum_ℤ n (λ i. f i *ℤ k) ≡ sum_ℤ n f *ℤ k
sum_factor n f k = sum_map on_ℤ on_ℤ (λ (z : ℤ). z *ℤ k) (zero-*ℤ k) (λ a b. dist_right a b k) n f

pub dot_same : (n : ℕ) (t a b : ℕ → ℤ) → ((i : ℕ) → i < n → a i ≡ b i) → dot n t a ≡ dot n t b
dot_same n t a b e =
    sum_ext on_ℤ n (λ i. t i *ℤ a i) (λ i. t i *ℤ b i) (λ i h. ap (λ (z : ℤ). t i *ℤ z) (e i h))

pub dot_times : (n : ℕ) (t a : ℕ → ℤ) (m : ℤ) → dot n t (λ i. m *ℤ a i) ≡ m *ℤ dot n t a
dot_times n t a m =
    sum_ext on_ℤ n (λ i. t i *ℤ (m *ℤ a i)) (λ i. m *ℤ (t i *ℤ a i)) (λ i h. *-swap (t i) m (a i))
    ∙ sum_times n m (λ i. t i *ℤ a i)

pub dot_times_both : (n : ℕ) (s t : ℕ → ℤ) (g : ℕ → ℕ → ℤ) (m : ℤ)
    → dot n s (λ v. dot n t (λ u. m *ℤ g v u)) ≡ m *ℤ dot n s (λ v. dot n t (λ u. g v u))
dot_times_both n s t g m =
    dot_same n s (λ v. dot n t (λ u. m *ℤ g v u)) (λ v. m *ℤ dot n t (λ u. g v u))
    (λ v h. dot_times n t (λ u. g v u) m)
    ∙ dot_times n s (λ v. dot n t (λ u. g v u)) m

-- two of them, one within the other, exchanged
pub dot_swap : (n : ℕ) (s t : ℕ → ℤ) (g : ℕ → ℕ → ℤ)
    → dot n s (λ v. dot n t (λ u. g v u)) ≡ dot n t (λ u. dot n s (λ v. g v u))
dot_swap n s t g =
    sum_ext on_ℤ n (λ v. s v *ℤ dot n t (λ u. g v u)) (λ v. sum_ℤ n (λ u. s v *ℤ (t u *ℤ g v u)))
    (λ v h. sym (sum_times n (s v) (λ u. t u *ℤ g v u)))
    ∙ sum_swap ints n n (λ v u. s v *ℤ (t u *ℤ g v u))
    ∙ sum_ext on_ℤ n (λ u. sum_ℤ n (λ v. s v *ℤ (t u *ℤ g v u))) (λ u. t u *ℤ dot n s (λ v. g v u))
    (λ u h.
    sum_ext on_ℤ n (λ v. s v *ℤ (t u *ℤ g v u)) (λ v. t u *ℤ (s v *ℤ g v u)) (λ v k. *-swap (s v) (t u) (g v u))
    ∙ sum_times n (t u) (λ v. s v *ℤ g v u))

-- as the definitions of the two transforms write it
pub dot_of_products : (n : ℕ) (s : ℕ → ℤ) (t g : ℕ → ℕ → ℤ)
    → sum_ℤ n (λ v. sum_ℤ n (λ u. (s v *ℤ t v u) *ℤ g v u)) ≡ dot n s (λ v. dot n (t v) (g v))
dot_of_products n s t g =
    sum_ext on_ℤ n (λ v. sum_ℤ n (λ u. (s v *ℤ t v u) *ℤ g v u)) (λ v. s v *ℤ dot n (t v) (g v))
    (λ v h.
    sum_ext on_ℤ n (λ u. (s v *ℤ t v u) *ℤ g v u) (λ u. s v *ℤ (t v u *ℤ g v u))
    (λ u k. *-assoc (s v) (t v u) (g v u))
    ∙ sum_times n (s v) (λ u. t v u *ℤ g v u))

-- ---- there and back
module _ (n : ℕ) (t : ℕ → ℕ → ℤ) where
  -- from one side
  line_back : (y : ℕ) (a : ℕ → ℤ) → dot n (λ v. t v y) (λ v. dot n (t v) a) ≡ dot n (gram n t y) a
  line_back y a =
      sym (dot_of_products n (λ v. t v y) t (λ v. a))
      ∙ sum_swap ints n n (λ v i. (t v y *ℤ t v i) *ℤ a i)
      ∙ sum_ext on_ℤ n (λ i. sum_ℤ n (λ v. (t v y *ℤ t v i) *ℤ a i)) (λ i. gram n t y i *ℤ a i)
      (λ i h. sum_factor n (λ v. t v y *ℤ t v i) (a i))

  -- from both
  pub there_and_back : (r : ℕ → ℕ → ℤ) (y x : ℕ)
      → dot n (λ v. t v y) (λ v. dot n (λ u. t u x) (λ u. dot n (t v) (λ j. dot n (t u) (r j))))
      ≡ dot n (gram n t y) (λ j. dot n (gram n t x) (r j))
  there_and_back r y x =
      dot_swap n (λ v. t v y) (λ u. t u x) (λ v u. dot n (t v) (λ j. dot n (t u) (r j)))
      ∙ dot_same n (λ u. t u x) (λ u. dot n (λ v. t v y) (λ v. dot n (t v) (λ j. dot n (t u) (r j))))
      (λ u. dot n (gram n t y) (λ j. dot n (t u) (r j))) (λ u h. line_back y (λ j. dot n (t u) (r j)))
      ∙ dot_swap n (λ u. t u x) (gram n t y) (λ u j. dot n (t u) (r j))
      ∙ dot_same n (gram n t y) (λ j. dot n (λ u. t u x) (λ u. dot n (t u) (r j))) (λ j. dot n (gram n t x) (r j))
      (λ j h. line_back x (r j))

-- ---- nearness
near_sum : (n : ℕ) (f g : ℕ → ℤ) (d : ℕ → ℕ) → ((i : ℕ) → i < n → Near (f i) (g i) (d i))
    → Near (sum_ℤ n f) (sum_ℤ n g) (sum_ℕ n d)
unfolding sum
near_sum zero f g d h = record { up = omega arith; down = omega arith }
near_sum (suc n) f g d h = near-+ (near_sum n f g d (λ i k. h i (omega arith))) (h n (omega arith))

-- of values that are at most e apart
pub near_dot : (n k e : ℕ) (t a b : ℕ → ℤ) → sum_ℕ n (λ i. nat_abs (t i)) ≤ k → ((i : ℕ) → i < n → Near (a i) (b i) e)
    → Near (dot n t a) (dot n t b) (k * e)
near_dot n k e t a b w h =
    near_within
    (near_sum n (λ i. t i *ℤ a i) (λ i. t i *ℤ b i) (λ i. nat_abs (t i) * e) (λ i l. near_left (t i) (h i l)))
    (omega (
      arith,
      weighted_within n e (λ i. nat_abs (t i)) (λ i. e) (λ i l. omega arith),
      mul-le-mul_right e w,
    ))

-- of weights, by what they are apart together, and values of at most m
near_weights : (n k m : ℕ) (s t a : ℕ → ℤ) → sum_ℕ n (λ i. nat_abs (s i -ℤ t i)) ≤ k
    → ((i : ℕ) → i < n → nat_abs (a i) ≤ m) → Near (dot n s a) (dot n t a) (k * m)
near_weights n k m s t a w h =
    near_within
    (near_sum n (λ i. s i *ℤ a i) (λ i. t i *ℤ a i) (λ i. nat_abs (s i -ℤ t i) * nat_abs (a i))
    (λ i l. near_right (a i) (near_difference (s i) (t i))))
    (omega (
      arith,
      weighted_within n m (λ i. nat_abs (s i -ℤ t i)) (λ i. nat_abs (a i)) h,
      mul-le-mul_right m w,
    ))

-- ---- a column at right angles to the others
unfoldable pub unit : (whole y i : ℕ) → ℤ
unit whole y i = cond (eqb i y) (pos whole) (pos 0)

unit_elsewhere : (whole y i : ℕ) (z : ℤ) → ¬ (i ≡ y) → unit whole y i *ℤ z ≡ pos 0
unfolding unit
unit_elsewhere whole y i z d = rw (ne_eqb i y d) (zero-*ℤ z)

unit_here : (whole y : ℕ) (z : ℤ) → unit whole y y *ℤ z ≡ pos whole *ℤ z
unfolding unit
unit_here whole y z = rw (eq-eqb y y refl)

dot_unit : (whole n y : ℕ) (a : ℕ → ℤ) → y < n → dot n (unit whole y) a ≡ pos whole *ℤ a y
unfolding sum
dot_unit whole zero y a h = absurd (not-suc-le-zero h)
dot_unit whole (suc n) y a h =
    ⊎_elim
    (λ (e : y ≡ n).
    ap (λ (z : ℤ). z +ℤ unit whole y n *ℤ a n)
    (sum_ext on_ℤ n (λ i. unit whole y i *ℤ a i) (λ i. pos 0)
    (λ i l. unit_elsewhere whole y i (a i) (λ q. let no : ⊥ = omega arith in no))
    ∙ sum_nought ints n)
    ∙ +ℤ_idl (unit whole y n *ℤ a n)
    ∙ ap (λ (k : ℕ). unit whole y k *ℤ a k) (sym e)
    ∙ unit_here whole y (a y))
    (λ (l : y < n).
    ap (λ (z : ℤ). dot n (unit whole y) a +ℤ z)
    (unit_elsewhere whole y n (a n) (λ q. let no : ⊥ = omega arith in no))
    ∙ +ℤ_idr (dot n (unit whole y) a)
    ∙ dot_unit whole n y a l)
    (eq-or-lt_of_le (le_of_suc-le-suc h))

module _ (n whole off : ℕ) (g : ℕ → ℕ → ℤ)
    (right : (y : ℕ) → y < n → sum_ℕ n (λ i. nat_abs (g y i -ℤ unit whole y i)) ≤ off) where
  near_whole : (m y : ℕ) (a : ℕ → ℤ) → y < n → ((i : ℕ) → i < n → nat_abs (a i) ≤ m)
      → Near (dot n (g y) a) (pos whole *ℤ a y) (off * m)
  near_whole m y a hy h =
      near_is refl (dot_unit whole n y a hy) (near_weights n off m (g y) (unit whole y) a (right y hy) h)

  -- from both sides
  pub near_both : (m : ℕ) (r : ℕ → ℕ → ℤ) → ((j i : ℕ) → j < n → i < n → nat_abs (r j i) ≤ m)
      → (y x : ℕ) → y < n → x < n
      → Near (dot n (g y) (λ j. dot n (g x) (r j))) (pos whole *ℤ (pos whole *ℤ r y x))
      (off * ((whole + off) * m) + whole * (off * m))
  near_both m r small y x hy hx =
      near_through (near_whole ((whole + off) * m) y (λ j. dot n (g x) (r j)) hy most)
      (near_times whole (near_whole m x (r y) hx (λ i hi. small y i hy hi)))
    where
      most : (j : ℕ) → j < n → nat_abs (dot n (g x) (r j)) ≤ (whole + off) * m
      most j hj =
          omega (
            arith,
            near_size (dot n (g x) (r j)) (pos whole *ℤ r j x)
                (near_whole m x (r j) hx (λ i hi. small j i hj hi)),
            magnitude-* (pos whole) (r j x),
            mul-le-mul_left whole (small j x hj hx),
            add-mul whole off m,
          )
