-- A square block of an accepted side, by what is asked of a scan's room and of the levels along it: writing and reading
-- stand on both.
use Rattle.std.proofs.Common.{◌≡◌, refl, sym, ap, ◌∙◌, false, List, ℕ, ◌*◌, ◌^◌, ◌≤◌, length, take, replicate, arith}
use native.Mathlib.Nat.{pow-le-pow_right}
use lib.ListN.{length-replicate}
use lib.Seq.{take_all, length-take-le}
use lib.IntN.{ℤ}
use Rattle.refusals.specs.Sides.{most_log2}
use Rattle.refusals.specs.Faults.{outside}
use Rattle.refusals.proofs.First.{inside}
use Rattle.scan.specs.Order.{in_order}
use Rattle.scan.proofs.Scanned.{area_is}
use Rattle.runs.specs.Runs.{nonzeros}
use Rattle.runs.proofs.Places.{Sided, nonzeros_in_order}
use Rattle.squares.specs.Inner.Beside.{Square}

pub both_sides : (l : ℕ) → outside 1 most_log2 l ≡ false → Sided l l
both_sides l e = rw e refl

-- a room of n places lends as many as a block has that is no longer
pub part_length : (n k : ℕ) → k ≤ n → length (take {A = ℕ} k (replicate n 0)) ≡ k
part_length n k h = length-take-le k (replicate n 0) (omega (arith, h, length-replicate {A = ℕ} n 0))

module _ (l : ℕ) (block : List ℤ) (s : Square l block) where
  pub within : (1 ≤ l) × (l ≤ most_log2)
  within = inside 1 most_log2 l s.side

  pub scan_room : length block ≡ 4 ^ l
  scan_room = s.room ∙ sym (area_is l within.1)

  -- up to a side it is no larger than that side's block
  pub at_most : (most : ℕ) → l ≤ most → length block ≤ 4 ^ most
  at_most most h = omega (arith, scan_room, pow-le-pow_right {n = 4} (omega arith) h)

  pub counted_in_order : (w h : ℕ) → w ≡ 2 ^ l → h ≡ 2 ^ l → nonzeros block ≡ nonzeros (in_order w h block)
  counted_in_order w h e f =
      rw (e, f)
      (sym
      (nonzeros_in_order l l (both_sides l s.side) block (omega (arith, s.room))
      ∙ ap nonzeros (take_all (2 ^ l * 2 ^ l) block (omega (arith, s.room)))))
