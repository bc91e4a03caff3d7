-- A buffer's surplus is neither tested nor changed: the call over the block alone has the same answer, and leaves the
-- block's part of the buffer that the call over the whole leaves.
use mathlib.Core.Path.{◌≡◌, refl, sym, ap, ◌∙◌}
use mathlib.Core.Bool.{not}
use mathlib.Core.List.{List, [], ◌∷◌, ◌++◌, map}
use Prim.Native.Nat.{ℕ, suc, ◌*◌, ◌^◌, ◌≤◌, ◌<◌}
use native.Mathlib.Nat.{le_refl}
use native.Mathlib.Omega.{arith}
use lib.Dec.{leb}
use lib.Pow.{pow_pos}
use lib.ListN.{length, get_or, set, take, drop, length-map, length-set, take-append-drop}
use lib.Seq.{get_or-take, take-take, length-take-le, ext_get_or, set-append_left}
use lib.IntN.{ℤ, pos, negsuc}
use borrow.Author.Tests.{le-ltb}
use Rattle.integers.specs.Sum.{at}
use Rattle.integers.specs.Tests.{some, eq_ℤ}
use Rattle.integers.proofs.Lists.{map_at}
use Rattle.scan.specs.Scan.{scan, scan_at}
use Rattle.scan.proofs.OneToOne.{scan_inside}
use Rattle.scan.specs.Order.{laid}
use Rattle.refusals.specs.Faults.{Outcome, accepted, refused, if_accepted}
use Rattle.refusals.proofs.First.{Alike, all, next, same_verdict}
use Rattle.price.specs.declared.Costs.{Costs}
use Rattle.price.specs.Level.{scaled, nearest, threshold}
use Rattle.price.specs.Price.{nonzeros}
use Rattle.coding.specs.declared.Coding.{Coding}
use Rattle.coding.specs.Block.{Quant, called, area, scale_here, shift_here, lambda_here, rows_here, rule_of}
use Rattle.coding.specs.Block.{block_places, scanned, places, is_skipped, largest, magnitudes, signs, count_of}
use Rattle.coding.specs.Block.{price_of}
use Rattle.coding.specs.Block.{quantised}
use Rattle.coding.specs.Call.{side_fault, qp_fault, lambda_fault, cost_fault, length_fault, sample_fault, largest_here}
use Rattle.coding.specs.Call.{level_fault, price_fault, uncoded_here, distortion_fault, quant_faults, quant_verdict}
use Rattle.coding.specs.Call.{quant_answer, quant_buffer}

-- values laid in front
laid_front : (ps : List ℕ) (vs l r : List ℤ) → ((n : ℕ) → n < length ps → get_or ps n 0 < length l)
    → laid ps vs (l ++ r) ≡ laid ps vs l ++ r
unfolding laid
laid_front [] vs l r h = refl
laid_front (p ∷ ps) [] l r h = refl
laid_front (p ∷ ps) (v ∷ vs) l r h =
    ap (laid ps vs) (set-append_left l r p v (h 0 (omega arith)))
    ∙ laid_front ps vs (set l p v) r (λ n lt. omega (arith, h (suc n) (omega arith), length-set l p v))

module _ (B : List ℤ) (t : Costs) (a : Coding) (room : 2 ^ a.log2 * 2 ^ a.log2 ≤ length B) where
  abbrev l : ℕ
  l = a.log2

  abbrev n : ℕ
  n = 2 ^ l * 2 ^ l

  abbrev part : Quant
  part = called (take n B) t a

  abbrev all_of : Quant
  all_of = called B t a

  inside : (m : ℕ) → m < length (scan (2 ^ l) (2 ^ l)) → scan_at (2 ^ l) (2 ^ l) m < n
  inside m h = scan_inside (2 ^ l) (2 ^ l) (pow_pos l) (pow_pos l) m h

  scanned_same : scanned part ≡ scanned all_of
  unfolding scanned block_places called scan_at
  scanned_same =
      let sc = scan (2 ^ l) (2 ^ l) in
      ext_get_or (pos 0) (map (λ p. at (take n B) p) sc) (map (λ p. at B p) sc)
      (length-map sc (λ p. at (take n B) p) ∙ sym (length-map sc (λ p. at B p)))
      (λ m h.
      let q : m < length sc = omega (arith, length-map sc (λ p. at (take n B) p)) in
      map_at 0 (pos 0) (λ p. at (take n B) p) sc m q
      ∙ get_or-take n B (get_or sc m 0) (pos 0) (inside m q)
      ∙ sym (map_at 0 (pos 0) (λ p. at B p) sc m q))

  places_same : places part ≡ places all_of
  unfolding places scale_here called
  places_same = ap (map (λ z. scaled (scale_here all_of) z)) scanned_same

  skipped_same : is_skipped part ≡ is_skipped all_of
  unfolding is_skipped shift_here called
  skipped_same =
      let t = threshold a.intra_slice (shift_here all_of) in
      ap (λ (ps : List ℕ). not (some (λ L. leb t L) ps)) places_same

  largest_same : largest_here part ≡ largest_here all_of
  unfolding largest_here shift_here called
  largest_same = ap (largest (nearest (shift_here all_of))) places_same

  rule_same : rule_of part ≡ rule_of all_of
  unfolding rule_of shift_here scale_here lambda_here rows_here called
  rule_same = refl

  uncoded_same : uncoded_here part ≡ uncoded_here all_of
  unfolding uncoded_here
  uncoded_same = rw (rule_same, places_same)

  lambda_same : lambda_here part ≡ lambda_here all_of
  unfolding lambda_here called
  lambda_same = refl

  faults_same : Alike part all_of quant_faults
  unfolding quant_faults side_fault qp_fault lambda_fault cost_fault length_fault sample_fault level_fault price_fault
      distortion_fault area called
  faults_same =
      next {f = side_fault} refl refl
      (next {f = qp_fault} refl refl
      (next {f = lambda_fault} refl refl
      (next {f = cost_fault} refl refl
      (next {f = length_fault} (le-ltb (length (take n B)) n (omega (arith, length-take-le n B room))
      ∙ sym (le-ltb (length B) n room)) refl
      (next {f = sample_fault} (ap (some (λ z. eq_ℤ z (negsuc 32767))) (take-take n n B (le_refl n))) refl
      (next {f = level_fault} (rw (skipped_same, largest_same)) refl
      (next {f = price_fault} (rw (skipped_same, largest_same, lambda_same)) refl
      (next {f = distortion_fault} (rw (skipped_same, uncoded_same)) refl all))))))))

  verdict_same : quant_verdict part ≡ quant_verdict all_of
  unfolding quant_verdict
  verdict_same = same_verdict part all_of quant_faults faults_same

  mode_same : part.mode ≡ all_of.mode
  unfolding called
  mode_same = refl

  magnitudes_same : magnitudes part ≡ magnitudes all_of
  unfolding magnitudes
  magnitudes_same = rw (mode_same, skipped_same, rule_same, places_same)

  count_same : count_of part ≡ count_of all_of
  unfolding count_of
  count_same = ap nonzeros magnitudes_same

  price_same : price_of part ≡ price_of all_of
  unfolding price_of
  price_same = rw (magnitudes_same, rule_same, places_same)

  pub surplus_untested : quant_answer part ≡ quant_answer all_of
  unfolding quant_answer
  surplus_untested = rw (verdict_same, count_same, price_same)

  quantised_same : quantised part ++ drop n B ≡ quantised all_of
  unfolding quantised block_places called scan_at
  quantised_same =
      let vs = signs (scanned all_of) (magnitudes all_of) in
      let sc = scan (2 ^ l) (2 ^ l) in
      ap (λ (zs : List ℤ). laid sc (signs zs (magnitudes part)) (take n B) ++ drop n B) scanned_same
      ∙ ap (λ (ms : List ℕ). laid sc (signs (scanned all_of) ms) (take n B) ++ drop n B) magnitudes_same
      ∙ sym (laid_front sc vs (take n B) (drop n B) (λ m h. omega (arith, inside m h, length-take-le n B room)))
      ∙ ap (laid sc vs) (take-append-drop n B)

  pub surplus_carried : quant_buffer part ++ drop n B ≡ quant_buffer all_of
  unfolding quant_buffer called
  surplus_carried = ap (λ (v : Outcome Unit). if_accepted v (quantised part) (take n B) ++ drop n B) verdict_same
      ∙ go (quant_verdict all_of)
    where
      go : (v : Outcome Unit) → if_accepted v (quantised part) (take n B) ++ drop n B ≡ if_accepted v (quantised all_of) B
      go (accepted u) = quantised_same
      go (refused m c) = take-append-drop n B
