-- Lines of side 2h by halves: the grid whose lower rows hold what the even coefficients give and whose upper rows, from
-- the last up, what the odd ones give, once it is unfolded, holds the values of every line. The two parts of the grid
-- are lent one after the other; what the whole then is comes first.
use mathlib.Core.Path.{◌≡◌, sym, ◌∙◌, ap, subst}
use mathlib.Core.Logic.{⊎_elim}
use mathlib.Core.List.{List, ◌++◌}
use Prim.Native.Nat.{ℕ, suc, ◌+◌, ◌-◌, ◌*◌, ◌^◌, ◌<◌, ◌≤◌}
use native.Mathlib.Nat.{two-pow-succ, add-mul}
use native.Mathlib.Omega.{arith}
use lib.ListN.{length, take, drop, length-append, length-drop, get_or-append}
use lib.Seq.{get_or-append-add, get_or-drop, length-take-le}
use lib.IntN.{ℤ, pos, nat_abs, ◌+ℤ◌, ◌-ℤ◌}
use borrow.Rule.Slice.PartMut.{put_mid, same_len_mid, mid_len}
use Rattle.integers.specs.Sum.{at}
use Rattle.integers.proofs.Grid.{inside}
use Rattle.integers.proofs.Order.{below_or_not}
use Rattle.refusals.specs.Sides.{most_log2}
use Rattle.tables.specs.Matrix.{matrix}
use Rattle.tables.proofs.Symmetry.{matrix_symmetric}
use Rattle.unfold.specs.Inner.Back.{value_at, odd_at, Within, most_value, most_odd}
use Rattle.unfold.proofs.Level.{near_value, far_value, value_bound}
use Rattle.unstage.specs.Inner.Rows.{line_value, Small, Lines, Unfolded}
use Rattle.unstage.proofs.Lines.{lines_within}

-- ---- the upper part of dst, from m on, came back as `up`, then the lower one as `low`
module _ (m : ℕ) (dst up : List ℤ) (hm : m ≤ length dst) (lu : length up ≡ length dst - m) where
  abbrev pub raised : List ℤ
  raised = put_mid m (length dst - m) dst up

  pub raised_long : length raised ≡ length dst
  raised_long = same_len_mid m (length dst - m) dst up (lu ∙ sym (mid_len m (length dst) dst (omega arith)))

  pub lower_long : length (take m raised) ≡ m
  lower_long = length-take-le m raised (omega (arith, raised_long))

  raised_at : (i : ℕ) → i < length up → at raised (m + i) ≡ at up i
  raised_at i h =
      subst (λ (k : ℕ). at raised (k + i) ≡ at up i) (length-take-le m dst hm)
      (get_or-append-add (take m dst) _ i (pos 0) ∙ get_or-append up _ (pos 0) i h)

  module _ (low : List ℤ) (ll : length low ≡ m) where
    abbrev pub both : List ℤ
    both = low ++ drop m raised

    pub both_long : length both ≡ length dst
    both_long = omega (arith, length-append low (drop m raised), length-drop m raised, raised_long)

    both_low : (i : ℕ) → i < m → at both i ≡ at low i
    both_low i h = get_or-append low (drop m raised) (pos 0) i (omega arith)

    both_up : (i : ℕ) → i < length up → at both (m + i) ≡ at up i
    both_up i h =
        subst (λ (k : ℕ). at both (k + i) ≡ at up i) ll
        (get_or-append-add low (drop m raised) i (pos 0) ∙ get_or-drop m raised i (pos 0) ∙ raised_at i h)

    -- no number of it is large
    pub both_within : Within most_value low → Within most_odd up → Within (2 ^ 29) both
    both_within wl wu i hi =
        ⊎_elim (λ (h : i < m). omega (arith, ap nat_abs (both_low i h), wl i (omega arith)))
        (λ (h : m ≤ i).
        subst (λ (k : ℕ). nat_abs (at both k) ≤ 2 ^ 29) (let e : m + (i - m) ≡ i = omega arith in e)
        (omega (
          arith,
          ap nat_abs (both_up (i - m) (omega (arith, both_long))),
          wu (i - m) (omega (arith, both_long)),
        )))
        (below_or_not i m)

    -- ---- lines of side 2h, h = 2^l
    module _ (l : ℕ) (hl : l < most_log2) (lines : ℕ) (em : m ≡ 2 ^ l * lines)
        (ed : length dst ≡ (2 ^ l + 2 ^ l) * lines) (src : List ℤ) (small : Small (2 ^ l + 2 ^ l) src lines)
        (gE gO : ℕ → ℕ → ℤ) (evens : Lines gE most_value (2 ^ l) lines low lines)
        (odds : Lines gO most_odd (2 ^ l) lines up lines)
        (even_is : (j n : ℕ) → j < lines → n < 2 ^ l
        → gE j n ≡ value_at matrix (2 ^ l) (λ k. at src (j * (2 ^ l + 2 ^ l) + 2 * k)) n)
        (odd_is : (j n : ℕ) → j < lines → n < 2 ^ l
        → gO j (2 ^ l - 1 - n) ≡ odd_at matrix (2 ^ l) (λ k. at src (j * (2 ^ l + 2 ^ l) + (2 * k + 1))) n) where
      abbrev h : ℕ
      h = 2 ^ l

      wholes : length dst ≡ h * lines + h * lines
      wholes = ed ∙ add-mul h h lines

      pub unfold_asks : Within (2 ^ 29) both
      unfold_asks =
          both_within (lines_within gE most_value h lines low (ll ∙ em) evens)
          (lines_within gO most_odd h lines up (omega (arith, wholes)) odds)

      lower : (j n : ℕ) → j < lines → n < h
          → at both (n * lines + j) ≡ value_at matrix h (λ k. at src (j * (h + h) + 2 * k)) n
      lower j n hj hn =
          both_low (n * lines + j) (omega (arith, inside lines n j hj h hn)) ∙ evens.holds j n hj hn
          ∙ even_is j n hj hn

      upper : (j n : ℕ) → j < lines → n < h
          → at both ((h + h - 1 - n) * lines + j) ≡ odd_at matrix h (λ k. at src (j * (h + h) + (2 * k + 1))) n
      upper j n hj hn =
          let r = h - 1 - n in
          let hr : r < h = omega arith in
          ap (at both) (let e : (h + h - 1 - n) * lines + j ≡ m + (r * lines + j) = place r (omega arith) in e)
          ∙ both_up (r * lines + j) (omega (arith, inside lines r j hj h hr, wholes))
          ∙ odds.holds j r hj hr
          ∙ odd_is j n hj hn
        where
          place : (r : ℕ) → h + h - 1 - n ≡ h + r → (h + h - 1 - n) * lines + j ≡ m + (r * lines + j)
          place r e = omega (arith, ap (λ (k : ℕ). k * lines) e, add-mul h r lines)

      value : (new : List ℤ) → Unfolded h lines both new → (j n : ℕ) → j < lines → n < h + h
          → at new (n * lines + j) ≡ line_value (h + h) src j n
      value new u j n hj hn =
          ⊎_elim (λ (g : n < h).
          u.near n j g hj
          ∙ ap (λ (z : ℤ). z +ℤ at both ((h + h - 1 - n) * lines + j)) (lower j n hj g)
          ∙ ap (λ (z : ℤ). value_at matrix h (λ k. at src (j * (h + h) + 2 * k)) n +ℤ z) (upper j n hj g)
          ∙ near_value matrix h (matrix_symmetric l hl) (λ k. at src (j * (h + h) + k)) n g)
          (λ (g : h ≤ n).
          subst (λ (m : ℕ). at new (m * lines + j) ≡ line_value (h + h) src j m)
          (let e : h + h - 1 - (h + h - 1 - n) ≡ n = omega arith in e)
          (mirrored (h + h - 1 - n) (omega arith)))
          (below_or_not n h)
        where
          mirrored : (n : ℕ) → n < h
              → at new ((h + h - 1 - n) * lines + j) ≡ line_value (h + h) src j (h + h - 1 - n)
          mirrored n g =
              u.far n j g hj
              ∙ ap (λ (z : ℤ). z -ℤ at both ((h + h - 1 - n) * lines + j)) (lower j n hj g)
              ∙ ap (λ (z : ℤ). value_at matrix h (λ k. at src (j * (h + h) + 2 * k)) n -ℤ z) (upper j n hj g)
              ∙ far_value matrix h (matrix_symmetric l hl) (λ k. at src (j * (h + h) + k)) n g

      pub unfolded_values : (new : List ℤ) → Unfolded h lines both new
          → Lines (line_value (h + h) src) most_value (h + h) lines new lines
      unfolded_values new u =
          record {
            holds = λ j n hj hn. value new u j n hj hn;
            within = λ j n hj hn.
                subst (λ (N : ℕ). nat_abs (value_at matrix N (λ k. at src (j * (h + h) + k)) n) ≤ most_value) (two-pow-succ l)
                (value_bound (suc l) (omega arith) (λ k. at src (j * (h + h) + k)) 32768
                (λ k hk. small j k hj (omega (arith, two-pow-succ l))) n (omega (arith, two-pow-succ l)));
          }
