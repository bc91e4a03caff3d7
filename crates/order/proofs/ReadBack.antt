-- Levels read back: the magnitudes of a block on which levels are laid, in scan order, are the levels' own. That levels
-- put down by rows are those laid along the scan is `same_block` of `signs`, and that there are as many of them
-- `same_count` of `weights`.
use mathlib.Core.Path.{◌≡◌, sym, ◌∙◌}
use mathlib.Core.List.{List, map}
use Prim.Native.Nat.{ℕ, ◌*◌, ◌≤◌}
use lib.ListN.{length, length-map}
use lib.IntN.{ℤ, nat_abs}
use Rattle.integers.specs.Sum.{at}
use Rattle.scan.specs.Scan.{scan}
use Rattle.scan.specs.Order.{laid, in_order}
use Rattle.coding.specs.Block.{signs}
use Rattle.coding.proofs.Signed.{laid_magnitudes}
use Rattle.weights.specs.Inner.Places.{in_scan}
use Rattle.scan.specs.Scanned.{Scanned}
use Rattle.order.proofs.Coefficients.{magnitudes_in_scan}

pub levels_in_scan : (w h : ℕ) (held : List ℕ) → Scanned w h held → (block : List ℤ) (ms : List ℕ)
    → length ms ≡ w * h
    → w * h ≤ length block
    → in_scan w h (map nat_abs (laid (scan w h) (signs (in_order w h block) ms) block)) ≡ ms
levels_in_scan w h held sc block ms long room =
    let ordered : length (in_order w h block) ≡ length (scan w h) = length-map (scan w h) (λ p. at block p) in
    magnitudes_in_scan w h (laid (scan w h) (signs (in_order w h block) ms) block)
    ∙ laid_magnitudes w h sc.wide sc.high (in_order w h block) ms block (long ∙ sym (ordered ∙ sc.full)) ordered
    room
