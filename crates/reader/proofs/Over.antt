-- Values laid over a block, and over a buffer that is longer: where each place is met, what was there before does not
-- matter.
use mathlib.Core.Path.{◌≡◌, sym, ap, ◌∙◌}
use mathlib.Core.Bool.{false}
use mathlib.Core.List.{List, ◌++◌, map, append-nil}
use Prim.Native.Nat.{ℕ, ◌*◌, ◌^◌, ◌≤◌}
use native.Mathlib.Omega.{arith}
use lib.Pow.{pow_pos}
use lib.ListN.{length, drop, drop_of_length-le}
use lib.Seq.{take_all}
use lib.IntN.{ℤ}
use Rattle.scan.specs.Scan.{scan}
use Rattle.scan.specs.Order.{laid}
use Rattle.scan.proofs.OneToOne.{scan_length}
use Rattle.scan.proofs.Laid.{laid_length, laid_in_order, order_laid}
use Rattle.runs.specs.Packing.{run_bits, unpacked}
use Rattle.runs.specs.Runs.{levels_of, misread}
use Rattle.runs.proofs.RoundTrip.{levels_told}
use Rattle.squares.specs.Inner.Beside.{Square}
use Rattle.squares.proofs.Squares.{within}
use Rattle.reader.specs.Inner.Blocks.{laid_over}

module _ (w h : ℕ) (hw : 1 ≤ w) (hh : 1 ≤ h) (full : length (scan w h) ≡ w * h) where
  pub laid_front : (vs b l : List ℤ) → length vs ≡ w * h → length b ≡ w * h → w * h ≤ length l
      → laid (scan w h) vs l ≡ laid (scan w h) vs b ++ drop (w * h) l
  laid_front vs b l many eb hl =
      let x = laid (scan w h) vs b in
      let n : length x ≡ w * h = laid_length (scan w h) vs b ∙ eb in
      ap (λ (y : List ℤ). laid (scan w h) y l)
      (sym (laid_in_order w h hw hh vs b (many ∙ sym full) (omega arith)))
      ∙ order_laid w h hw hh x l full (omega (arith, n)) hl
      ∙ ap (λ (y : List ℤ). y ++ drop (w * h) l) (take_all (w * h) x (omega (arith, n)))

-- the levels that a list tells, over any block of its places
pub over_any : (l : ℕ) (list : List ℕ) (b c : List ℤ) → Square l c → length b ≡ length c
    → misread run_bits (2 ^ l * 2 ^ l) list ≡ false
    → laid_over (2 ^ l) (2 ^ l) list b ≡ laid_over (2 ^ l) (2 ^ l) list c
unfolding laid_over
over_any l list b c s e right =
    let n = 2 ^ l * 2 ^ l in
    let vs = levels_of n (map (unpacked run_bits) list) in
    let full = scan_length l l (within l c s).1 (within l c s).1 in
    let short : length b ≤ n = omega (arith, e, s.room) in
    laid_front (2 ^ l) (2 ^ l) (pow_pos l) (pow_pos l) full vs c b (levels_told run_bits n list right) s.room
    (omega (arith, e, s.room))
    ∙ ap (λ (y : List ℤ). laid (scan (2 ^ l) (2 ^ l)) vs c ++ y) (drop_of_length-le b short)
    ∙ append-nil (laid (scan (2 ^ l) (2 ^ l)) vs c)
