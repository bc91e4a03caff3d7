-- The level of side 2^(l+1) of T, as the line functions go through it: what `odd_half` asks of what `part` left, what
-- `spread` asks, and what the row then holds. Each line function is these laws at its own l.
use mathlib.Core.Path.{◌≡◌, refl, sym, ◌∙◌, ap, subst}
use mathlib.Core.List.{List}
use mathlib.Core.Logic.{⊎_elim}
use Prim.Native.Nat.{ℕ, zero, suc, ◌+◌, ◌-◌, ◌*◌, ◌/◌, ◌%◌, ◌^◌, ◌<◌, ◌≤◌}
use native.Mathlib.Nat.{mul-le-mul, mul-le-mul_right, two-pow-succ}
use native.Mathlib.Omega.{arith}
use lib.Pow.{pow_mono}
use lib.ListN.{length}
use lib.IntN.{ℤ, nat_abs, ◌+ℤ◌, ◌-ℤ◌, ◌*ℤ◌}
use Rattle.integers.specs.Sum.{on_ℤ, sum_ℤ, sum_ℕ, at}
use Rattle.integers.proofs.Sums.{sum_ext}
use Rattle.integers.proofs.Dot.{sum_within, magnitude_products}
use Rattle.integers.proofs.Order.{below_or_not}
use Rattle.refusals.specs.Sides.{most_log2}
use Rattle.tables.specs.Matrix.{matrix}
use Rattle.tables.specs.Inner.OddRows.{odd_rows_of, odd_rows}
use Rattle.tables.proofs.Symmetry.{matrix_symmetric}
use Rattle.tables.proofs.OddRows.{odd_row_at, odd_rows_are, odd_rows_length}
use Rattle.tables.proofs.Turned.{odd_rows_crossed, entry_at_most}
use Rattle.butterfly.specs.Inner.Lines.{gained, spent}
use Rattle.unfold.specs.Inner.Back.{value_at, odd_at, Parted, Halves, Spread, Back, most_odd}
use Rattle.unfold.proofs.Level.{near_value, far_value, value_bound}

-- every coefficient of a line in two parts has 16 bits
pub coefficient_within : (h : ℕ) (x e o : List ℤ) → length e ≡ h → Parted x e o → (k : ℕ) → k < h + h
    → nat_abs (at x k) ≤ 32768
coefficient_within h x e o le parted k hk = by_parity (k % 2) refl
  where
    by_parity : (p : ℕ) → k % 2 ≡ p → nat_abs (at x k) ≤ 32768
    by_parity zero q =
        subst (λ (i : ℕ). nat_abs (at x i) ≤ 32768) (let i : 2 * (k / 2) ≡ k = omega arith in i)
        (omega (arith, ap nat_abs (parted.evens (k / 2) (omega arith)), (parted.small (k / 2) (omega arith)).0))
    by_parity (suc zero) q =
        subst (λ (i : ℕ). nat_abs (at x i) ≤ 32768) (let i : 2 * (k / 2) + 1 ≡ k = omega arith in i)
        (omega (arith, ap nat_abs (parted.odds (k / 2) (omega arith)), (parted.small (k / 2) (omega arith)).1))
    by_parity (suc (suc p)) q = absurd (let no : ⊥ = omega arith in no)

module _ (l : ℕ) (hl : l < most_log2) where
  pub half_most : 2 ^ l ≤ 16
  half_most = pow_mono {i = l} {j = 4} (omega arith)

  -- an entry of an odd row
  pub odd_entry : (k n : ℕ) → k < 2 ^ l → n < 2 ^ l → nat_abs (matrix (2 ^ l + 2 ^ l) (2 * k + 1) n) ≤ 90
  odd_entry k n hk hn =
      subst (λ (m : ℕ). nat_abs (matrix m (2 * k + 1) n) ≤ 90) (two-pow-succ l)
      (entry_at_most (suc l) (omega arith) (2 * k + 1) n (omega (arith, two-pow-succ l))
      (omega (arith, two-pow-succ l)))

  -- what the odd coefficients give is at most 16 · 90 · 32768
  pub odd_bound : (o : ℕ → ℤ) → ((k : ℕ) → k < 2 ^ l → nat_abs (o k) ≤ 32768) → (n : ℕ) → n < 2 ^ l
      → nat_abs (odd_at matrix (2 ^ l) o n) ≤ most_odd
  unfolding odd_at
  odd_bound o each n hn =
      omega (
        arith,
        magnitude_products (2 ^ l) (λ k. matrix (2 ^ l + 2 ^ l) (2 * k + 1) n) o,
        sum_within (2 ^ l) 2949120 (λ k. nat_abs (matrix (2 ^ l + 2 ^ l) (2 * k + 1) n) * nat_abs (o k))
            (λ k hk. mul-le-mul (odd_entry k n hk hn) (each k hk)),
        mul-le-mul_right 2949120 half_most,
      )

-- ---- a line x of side 2h, once `part` has left its even coefficients e and its odd ones o; the table and the odd
-- coefficients as `odd_half` reads them are t and d
pub record Taken (l h : ℕ) (x e o t d : List ℤ) : Type 0 where
  pub few : l < most_log2
  pub side : h ≡ 2 ^ l
  pub evens : length e ≡ h
  pub odds : length o ≡ h
  pub parted : Parted x e o
  pub table : t ≡ odd_rows h
  pub read : d ≡ o

module _ {l h : ℕ} {x e o t d : List ℤ} (k : Taken l h x e o t d) where
  is_table : t ≡ odd_rows_of matrix (2 ^ l)
  is_table = k.table ∙ ap odd_rows k.side ∙ odd_rows_are (2 ^ l)

  even_side : length e ≡ 2 ^ l
  even_side = k.evens ∙ k.side

  odd_side : length o ≡ 2 ^ l
  odd_side = k.odds ∙ k.side

  small : (i : ℕ) → i < 2 ^ l → nat_abs (at o i) ≤ 32768
  small i hi = (k.parted.small i (omega (arith, even_side))).1

  pub table_long : length o * length o ≤ length t
  table_long =
      subst (λ (m : ℕ). m * m ≤ length t) (sym odd_side)
      (omega (arith, ap (λ (s : List ℤ). length s) is_table, odd_rows_length matrix (2 ^ l)))

  pub odds_few : length o ≤ 16
  odds_few = omega (arith, odd_side, half_most l k.few)

  crossed : (n i : ℕ) → n < 2 ^ l → i < 2 ^ l → at t (i * 2 ^ l + n) ≡ matrix (2 ^ l + 2 ^ l) (2 * i + 1) n
  crossed n i hn hi =
      ap (λ (s : List ℤ). at s (i * 2 ^ l + n)) is_table
      ∙ odd_row_at matrix (2 ^ l) i n hi hn
      ∙ sym (odd_rows_crossed l k.few i n hi hn)

  spent_within : (n : ℕ) → n < 2 ^ l → spent t o (length o) n < 2 ^ 31
  spent_within n hn =
      subst (λ (m : ℕ). sum_ℕ m (λ i. nat_abs (at t (i * m + n)) * nat_abs (at o i)) < 2 ^ 31) (sym odd_side)
      (omega (
        arith,
        sum_within (2 ^ l) 2949120 (λ i. nat_abs (at t (i * 2 ^ l + n)) * nat_abs (at o i))
            (λ i hi. mul-le-mul (within i hi) (small i hi)),
        mul-le-mul_right 2949120 (half_most l k.few),
      ))
    where
      within : (i : ℕ) → i < 2 ^ l → nat_abs (at t (i * 2 ^ l + n)) ≤ 90
      within i hi = subst (λ (z : ℤ). nat_abs z ≤ 90) (sym (crossed n i hn hi)) (odd_entry l k.few i n hi hn)

  pub odd_half_fits : (n : ℕ) → n < h → spent t d (length o) n < 2 ^ 31
  odd_half_fits n hn =
      subst (λ (s : List ℤ). spent t s (length o) n < 2 ^ 31) (sym k.read) (spent_within n (omega (arith, k.side)))

  -- what `odd_half` gains is what the odd coefficients give
  gained_is : (n : ℕ) → n < 2 ^ l → gained t o (length o) n ≡ odd_at matrix (2 ^ l) (at o) n
  unfolding odd_at
  gained_is n hn =
      ap (λ (m : ℕ). sum_ℤ m (λ i. at t (i * m + n) *ℤ at o i)) odd_side
      ∙ sum_ext on_ℤ (2 ^ l) (λ i. at t (i * 2 ^ l + n) *ℤ at o i)
      (λ i. matrix (2 ^ l + 2 ^ l) (2 * i + 1) n *ℤ at o i)
      (λ i hi. ap (λ (z : ℤ). z *ℤ at o i) (crossed n i hn hi))

  odd_coefficients : (n : ℕ) → odd_at matrix (2 ^ l) (at o) n ≡ odd_at matrix (2 ^ l) (λ i. at x (2 * i + 1)) n
  unfolding odd_at
  odd_coefficients n =
      sum_ext on_ℤ (2 ^ l) (λ i. matrix (2 ^ l + 2 ^ l) (2 * i + 1) n *ℤ at o i)
      (λ i. matrix (2 ^ l + 2 ^ l) (2 * i + 1) n *ℤ at x (2 * i + 1))
      (λ i hi. ap (λ (z : ℤ). matrix (2 ^ l + 2 ^ l) (2 * i + 1) n *ℤ z) (k.parted.odds i (omega (arith, even_side))))

  pub halved : (b : List ℤ) → ((n : ℕ) → n < h → at b n ≡ gained t d (length o) n) → Halves l x e b
  halved b gains =
      record {
        evens = λ i hi. k.parted.evens i (omega (arith, even_side));
        odds = λ n hn. given n hn ∙ odd_coefficients n;
        small = λ i hi. coefficient_within (2 ^ l) x e o even_side k.parted i hi;
        within = λ n hn. omega (arith, ap nat_abs (given n hn), odd_bound l k.few (at o) small n hn);
      }
    where
      given : (n : ℕ) → n < 2 ^ l → at b n ≡ odd_at matrix (2 ^ l) (at o) n
      given n hn =
          gains n (omega (arith, k.side))
          ∙ ap (λ (s : List ℤ). gained t s (length o) n) k.read
          ∙ gained_is n hn

-- ---- x in its halves e and b; r the values of the even coefficients
module _ (l : ℕ) (few : l < most_log2) (x e b r : List ℤ) (k : Halves l x e b) (back : Back l e r) where
  pub spread_asks : (n : ℕ) → n < 2 ^ l → nat_abs (at r n) + nat_abs (at b n) < 2 ^ 31
  spread_asks n hn = omega (arith, back.within n hn, k.within n hn)

  even_values : (n : ℕ) → n < 2 ^ l → at r n ≡ value_at matrix (2 ^ l) (λ i. at x (2 * i)) n
  unfolding value_at
  even_values n hn =
      back.holds n hn
      ∙ sum_ext on_ℤ (2 ^ l) (λ i. matrix (2 ^ l) i n *ℤ at e i) (λ i. matrix (2 ^ l) i n *ℤ at x (2 * i))
      (λ i hi. ap (λ (z : ℤ). matrix (2 ^ l) i n *ℤ z) (k.evens i hi))

  pub level_back : (row : List ℤ) → length r ≡ 2 ^ l → Spread r b row → Back (suc l) x row
  level_back row lr spread =
      record {
        holds = λ n hn.
            subst (λ (N : ℕ). at row n ≡ value_at matrix N (at x) n) (sym (two-pow-succ l))
            (value n (omega (arith, two-pow-succ l)));
        within = λ n hn.
            omega (
              arith,
              ap nat_abs (value n (omega (arith, two-pow-succ l))),
              subst (λ (N : ℕ). nat_abs (value_at matrix N (at x) n) ≤ 1864 * 32768) (two-pow-succ l)
                  (value_bound (suc l) (omega arith) (at x) 32768
                  (λ i hi. k.small i (omega (arith, two-pow-succ l))) n hn),
            );
      }
    where
      near : (n : ℕ) → n < 2 ^ l → at row n ≡ value_at matrix (2 ^ l + 2 ^ l) (at x) n
      near n hn =
          spread.near n (omega arith)
          ∙ ap (λ (z : ℤ). z +ℤ at b n) (even_values n hn)
          ∙ ap (λ (z : ℤ). value_at matrix (2 ^ l) (λ i. at x (2 * i)) n +ℤ z) (k.odds n hn)
          ∙ near_value matrix (2 ^ l) (matrix_symmetric l few) (at x) n hn

      far : (n : ℕ) → n < 2 ^ l
          → at row (2 ^ l + 2 ^ l - 1 - n) ≡ value_at matrix (2 ^ l + 2 ^ l) (at x) (2 ^ l + 2 ^ l - 1 - n)
      far n hn =
          ap (λ (m : ℕ). at row (m + m - 1 - n)) (sym lr)
          ∙ spread.far n (omega arith)
          ∙ ap (λ (z : ℤ). z -ℤ at b n) (even_values n hn)
          ∙ ap (λ (z : ℤ). value_at matrix (2 ^ l) (λ i. at x (2 * i)) n -ℤ z) (k.odds n hn)
          ∙ far_value matrix (2 ^ l) (matrix_symmetric l few) (at x) n hn

      value : (n : ℕ) → n < 2 ^ l + 2 ^ l → at row n ≡ value_at matrix (2 ^ l + 2 ^ l) (at x) n
      value n hn =
          ⊎_elim (λ (h : n < 2 ^ l). near n h)
          (λ (h : 2 ^ l ≤ n).
          subst (λ (m : ℕ). at row m ≡ value_at matrix (2 ^ l + 2 ^ l) (at x) m)
          (let e : 2 ^ l + 2 ^ l - 1 - (2 ^ l + 2 ^ l - 1 - n) ≡ n = omega arith in e)
          (far (2 ^ l + 2 ^ l - 1 - n) (omega arith)))
          (below_or_not n (2 ^ l))
