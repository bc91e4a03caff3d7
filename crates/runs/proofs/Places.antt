-- A block within the sides that the calls accept, in scan order: as many levels as places, so that a run fits its
-- field; each level of the block is one of them, and each of them is one of the block.
use mathlib.Core.Path.{◌≡◌, sym, ap, subst, ◌∙◌}
use mathlib.Core.Logic.{⊎_elim}
use mathlib.Core.Bool.{false, cond, ◌||◌}
use mathlib.Core.List.{List}
use Prim.Native.Nat.{ℕ, ◌*◌, ◌^◌, ◌≤◌, ◌<◌}
use native.Mathlib.Nat.{mul-le-mul}
use native.Mathlib.Omega.{arith}
use lib.Pow.{pow_pos, pow_mono}
use lib.ListN.{length, take, length-map, get_or-eq_default}
use lib.Seq.{get_or-take, ext_get_or}
use lib.IntN.{ℤ, pos}
use Rattle.integers.specs.Sum.{at}
use Rattle.integers.proofs.Order.{below_or_not}
use Rattle.integers.proofs.Lists.{map_at}
use Rattle.integers.proofs.Sums.{nats}
use Rattle.integers.proofs.Tests.{neither}
use Rattle.refusals.specs.Sides.{most_log2}
use Rattle.refusals.specs.Faults.{outside}
use Rattle.refusals.proofs.First.{inside}
use Rattle.scan.specs.Scan.{scan, scan_at}
use Rattle.scan.specs.Order.{in_order}
use Rattle.scan.proofs.OneToOne.{scan_length, scan_inside}
use Rattle.scan.proofs.Order.{scan_hit, scan_over}
use Rattle.runs.specs.Packing.{run_bits}
use Rattle.runs.specs.Runs.{is_zero, nonzeros}

-- the log2 sides are those of no fault
abbrev pub Sided : (lw lh : ℕ) → Type 0
Sided lw lh = (outside 1 most_log2 lw || outside 1 most_log2 lh) ≡ false

-- of a block 2^lw wide and 2^lh high
abbrev pub area : (lw lh : ℕ) → ℕ
area lw lh = 2 ^ lw * 2 ^ lh

-- its levels, in scan order
abbrev pub ordered : (lw lh : ℕ) → List ℤ → List ℤ
ordered lw lh buffer = in_order (2 ^ lw) (2 ^ lh) buffer

module _ (lw lh : ℕ) (s : Sided lw lh) where
  wide : lw ≤ most_log2
  wide = (inside 1 most_log2 lw (neither (outside 1 most_log2 lw) (outside 1 most_log2 lh) s).0).1

  high : lh ≤ most_log2
  high = (inside 1 most_log2 lh (neither (outside 1 most_log2 lw) (outside 1 most_log2 lh) s).1).1

  pub all_met : length (scan (2 ^ lw) (2 ^ lh)) ≡ area lw lh
  all_met = scan_length lw lh wide high

  -- the one fact of the field's width: each run of such a block fits
  pub runs_fit : area lw lh ≤ 2 ^ run_bits
  runs_fit =
      let most : area lw lh ≤ 2 ^ most_log2 * 2 ^ most_log2 =
      mul-le-mul (pow_mono {i = lw} {j = most_log2} wide) (pow_mono {i = lh} {j = most_log2} high) in
      omega arith

  place_inside : (j : ℕ) → j < area lw lh → scan_at (2 ^ lw) (2 ^ lh) j < area lw lh
  place_inside j h = scan_inside (2 ^ lw) (2 ^ lh) (pow_pos lw) (pow_pos lh) j (omega (arith, all_met))

  module _ (buffer : List ℤ) where
    pub as_many : length (ordered lw lh buffer) ≡ area lw lh
    as_many = length-map (scan (2 ^ lw) (2 ^ lh)) (λ p. at buffer p) ∙ all_met

    ordered_at : (j : ℕ) → j < area lw lh → at (ordered lw lh buffer) j ≡ at buffer (scan_at (2 ^ lw) (2 ^ lh) j)
    unfolding scan_at
    ordered_at j h = map_at 0 (pos 0) (λ p. at buffer p) (scan (2 ^ lw) (2 ^ lh)) j (omega (arith, all_met))

    -- what holds of each level of the block, and of 0, holds in scan order
    pub each_in_order : (P : ℤ → Type 0) → P (pos 0) → ((k : ℕ) → k < area lw lh → P (at buffer k))
        → (j : ℕ) → P (at (ordered lw lh buffer) j)
    each_in_order P nought h j = ⊎_elim met behind (below_or_not j (area lw lh))
      where
        met : j < area lw lh → P (at (ordered lw lh buffer) j)
        met l = subst P (sym (ordered_at j l)) (h (scan_at (2 ^ lw) (2 ^ lh) j) (place_inside j l))

        behind : area lw lh ≤ j → P (at (ordered lw lh buffer) j)
        behind l =
            subst P (sym (get_or-eq_default (ordered lw lh buffer) (pos 0) (omega (arith, as_many)))) nought

    -- and back
    pub each_in_block : (P : ℤ → Type 0) → ((j : ℕ) → P (at (ordered lw lh buffer) j))
        → (k : ℕ) → k < area lw lh → P (at buffer k)
    each_in_block P h k l =
        let m = scan_hit (2 ^ lw) (2 ^ lh) (pow_pos lw) (pow_pos lh) all_met k l in
        subst P (ordered_at m.0 m.1 ∙ ap (at buffer) m.2) (h m.0)

    pub nonzeros_in_order : area lw lh ≤ length buffer
        → nonzeros (ordered lw lh buffer) ≡ nonzeros (take (area lw lh) buffer)
    unfolding nonzeros
    nonzeros_in_order room =
        scan_over (2 ^ lw) (2 ^ lh) (pow_pos lw) (pow_pos lh) all_met nats (λ z. cond (is_zero z) 0 1) buffer (pos 0)
        room

  -- only the block's places count
  pub front_in_order : (buffer : List ℤ) → ordered lw lh (take (area lw lh) buffer) ≡ ordered lw lh buffer
  front_in_order buffer =
      let front = take (area lw lh) buffer in
      ext_get_or (pos 0) (ordered lw lh front) (ordered lw lh buffer) (as_many front ∙ sym (as_many buffer))
      (λ j l.
      let h : j < area lw lh = omega (arith, as_many front) in
      ordered_at front j h
      ∙ get_or-take (area lw lh) buffer (scan_at (2 ^ lw) (2 ^ lh) j) (pos 0) (place_inside j h)
      ∙ sym (ordered_at buffer j h))
