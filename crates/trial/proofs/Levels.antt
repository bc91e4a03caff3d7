-- The levels of a candidate: magnitudes that stand by rows for those in scan order are signed to the block that the
-- definition lays along the scan, and there are as many nonzero ones.
use Rattle.std.proofs.Common.{◌≡◌, List, ℕ, ◌*◌, ◌≤◌, length, get_or, arith, sym, ◌∙◌}
use lib.IntN.{ℤ}
use Rattle.price.specs.Price.{nonzeros}
use Rattle.coding.specs.Block.{signs}
use Rattle.scan.specs.Scanned.{Scanned}
use Rattle.weights.specs.Inner.Places.{Standing}
use Rattle.weights.proofs.Places.{same_count, everywhere}
use Rattle.signs.proofs.Signing.{same_block}
use Rattle.trial.specs.Inner.Whole.{Whole}
use Rattle.trial.specs.Inner.Trial.{levels_by}

module _ (l q w h : ℕ) (r B : List ℤ) (cs : List ℕ) (whole : Whole l q w h r B cs) where
  pub places_are : (n : ℕ) → n ≡ length r → n ≡ w * h
  places_are n e = rw (whole.wide, whole.tall) (e ∙ whole.samples)

  module _ (held : List ℕ) (scanned : Scanned w h held) (ms rows : List ℕ) (all : length ms ≡ length r)
      (room : length rows ≡ w * h) (standing : Standing w h rows ms) where
    pub rows_small : ((k : ℕ) → get_or ms k 0 ≤ 32767) → (k : ℕ) → get_or rows k 0 ≤ 32767
    rows_small small =
        everywhere w h held scanned ms (places_are _ all) rows room standing (λ (n : ℕ). n ≤ 32767) (omega arith)
        (λ k h. small k)

    pub rows_count : nonzeros rows ≡ nonzeros ms
    rows_count = same_count w h held scanned ms (places_are _ all) rows room standing

    pub rows_levels : signs B rows ≡ levels_by l B ms
    unfolding levels_by
    rows_levels =
        rw (whole.wide, whole.tall) at
        (same_block w h held scanned ms (places_are _ all) rows room standing B
        (places_are _ (whole.block ∙ sym whole.samples)))
