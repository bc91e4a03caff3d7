-- What the writer and the reader leave, who are lent the front of a buffer alone: as the definitions have it of the whole
-- buffer, by the number of places and the count that code has worked out.
use Rattle.std.proofs.Common.{◌≡◌, false, List, ◌++◌, map, ℕ, ◌*◌, ◌^◌, ◌≤◌, length, take, drop, arith, sym, ap, ◌∙◌}
use lib.IntN.{ℤ}
use lib.Pow.{pow_pos}
use lib.Seq.{length-take-le}
use Rattle.refusals.specs.Sides.{most_log2}
use Rattle.refusals.specs.Faults.{outside}
use Rattle.runs.specs.Packing.{run_bits, packed, unpacked}
use Rattle.runs.specs.Runs.{nonzeros, symbols_of, levels_of, misread}
use Rattle.runs.specs.Call.{writing, symbol_count, symbols_here, reading, restored}
use Rattle.runs.proofs.Places.{front_in_order, all_met}
use Rattle.runs.proofs.RoundTrip.{levels_told}
use Rattle.squares.proofs.Squares.{both_sides}
use Rattle.writer.specs.Inner.Lists.{written_over}
use Rattle.reader.specs.Inner.Blocks.{laid_over}
use Rattle.reader.proofs.Over.{laid_front}

module _ (l : ℕ) (square : outside 1 most_log2 l ≡ false) (block : List ℤ) (list : List ℕ) (n : ℕ)
    (area : n ≡ 2 ^ l * 2 ^ l) where
  pub written : (count : ℕ) → count ≡ nonzeros (take n block)
      → written_over (2 ^ l) (2 ^ l) (take n block) list count
      ≡ symbols_here (writing block l list) ++ drop (symbol_count (writing block l list)) list
  unfolding written_over symbols_here symbol_count
  written count e =
      rw (e, area)
      (ap (λ (zs : List ℤ). map (packed run_bits) (symbols_of zs) ++ drop (nonzeros (take (2 ^ l * 2 ^ l) block)) list)
      (front_in_order l l (both_sides l square) block))

  pub laid_off : n ≤ length block → misread run_bits n list ≡ false
      → laid_over (2 ^ l) (2 ^ l) list (take n block) ++ drop n block ≡ restored (reading list block l)
  unfolding laid_over restored
  laid_off fits right =
      let m = 2 ^ l * 2 ^ l in
      let vs = levels_of m (map (unpacked run_bits) list) in
      let most : m ≤ length block = omega (arith, area) in
      let told = levels_told run_bits m list (ap (λ (k : ℕ). misread run_bits k list) (sym area) ∙ right) in
      rw area
      (sym (laid_front (2 ^ l) (2 ^ l) (pow_pos l) (pow_pos l) (all_met l l (both_sides l square)) vs (take m block) block
      told (length-take-le m block most) most))
