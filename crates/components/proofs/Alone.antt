-- Each component of the three-component call is coded as transform and quantiser alone code its stretch. Of an accepted
-- call: the transform accepts the stretch of a component that is run, the quantiser accepts what the transform left and
-- answers the count and the price that the call answers, and what the quantiser leaves is what then stands in the
-- stretch. Of every call: a component not run answers 0 and 0 and keeps its residuals, and the surplus stays. So no
-- component is merely cleared, kept or made up.
use mathlib.Core.Path.{◌≡◌, refl, sym, ap, ◌∙◌}
use mathlib.Core.Bool.{Bool, true, false, cond}
use mathlib.Core.List.{List, ◌++◌}
use Prim.Native.Nat.{ℕ, zero, suc, ◌+◌, ◌-◌, ◌*◌, ◌^◌, ◌≤◌}
use native.Mathlib.Nat.{pow-succ'}
use native.Mathlib.Omega.{arith}
use lib.ListN.{length, take, drop, length-drop}
use lib.Seq.{take_at, drop_at, drop-drop, length-take-le}
use lib.IntN.{ℤ}
use Rattle.refusals.specs.declared.Component.{Component}
use Rattle.refusals.specs.declared.Component.TheVariants.{Y, U, «V»}
use Rattle.refusals.specs.Sides.{most_log2}
use Rattle.refusals.specs.Faults.{outside, Outcome, accepted, passed, refused, verdict}
use Rattle.transform.specs.Call.{places, trans_verdict, trans_buffer}
use Rattle.transform.proofs.Bounds.{coefficients_long, none_is_least}
use Rattle.coding.specs.Block as block
use Rattle.coding.specs.Block.{Quant, count_of, price_of}
use Rattle.coding.specs.Call as quant
use Rattle.components.specs.Call.{SubBlock, runs, log2_of, area, start, stretch, trans_of, quant_on, quant_of, count}
use Rattle.components.specs.Call.{price, share, coded, levels, sub_block_verdict, sub_block_answer}
use Rattle.components.specs.Call.{sub_block_buffer}
use Rattle.components.specs.Inner.Groups.{late_faults, EarlyPassed}
use Rattle.components.proofs.Log2.{log2_high, log2_inside}
use Rattle.components.proofs.Blocks.{block_accepted, block_leaves, quantised_length}
use Rattle.components.proofs.Late.{late_of, alone_late}
use Rattle.components.proofs.Accepted.{sides_fine, qp_fine, lambda_fine, costs_fine, long_enough, residuals_tame}
use Rattle.components.proofs.Accepted.{early_passed, late_passed}
use Rattle.components.proofs.Answer.{alone, outcome, answer_alone, buffer_alone, answer_whole, buffer_whole}
use Rattle.components.proofs.Answer.{levels_run, levels_not_run, refused_leaves}

-- what stands in a component's stretch after the call, and behind all three
abbrev pub left_in : Component → SubBlock → List ℤ
left_in k s = take (area k s) (drop (start k s) (sub_block_buffer s))

abbrev pub behind : SubBlock → List ℤ → List ℤ
behind s l = drop (start «V» s + area «V» s) l

-- the quantiser's call on what the transform alone leaves of a component's stretch
abbrev pub quant_after : Component → SubBlock → Quant
quant_after k s = quant_on k s (trans_buffer (trans_of k s))

-- ---- where the stretches stand
double : (l : ℕ) → 1 ≤ l → 2 ^ l ≡ 2 * 2 ^ (l - 1)
double zero h = absurd (let no : ⊥ = omega arith in no)
double (suc l) h = let e : suc l - 1 ≡ l = omega arith in rw e (pow-succ' 2 l)

module _ (s : SubBlock) (early : EarlyPassed s) where
  quarter : area Y s ≡ 4 * area U s
  unfolding area
  quarter =
      let i = sides_fine s early.settings in
      rw (double s.lw (omega arith), double s.lh (omega arith)) (omega arith)

  as_large : area U s ≡ area «V» s
  unfolding area
  as_large = refl

  inside : (k : Component) → start k s + area k s ≤ length s.buffer
  unfolding start
  inside Y = omega (arith, quarter, long_enough s early.buffer)
  inside U = omega (arith, quarter, long_enough s early.buffer)
  inside «V» = omega (arith, quarter, as_large, long_enough s early.buffer)

  pub stretch_long : (k : Component) → length (stretch k s) ≡ area k s
  unfolding stretch
  stretch_long k = length-take-le (area k s) (drop (start k s) s.buffer) (simp length-drop (omega (arith, inside k)))

  levels_long : (k : Component) → length (levels k s) ≡ area k s
  unfolding quant_of quant_on trans_of area
  levels_long k = by (runs k s) refl
    where
      by : (t : Bool) → runs k s ≡ t → length (levels k s) ≡ area k s
      by true e =
          ap length (levels_run s k e)
          ∙ quantised_length (quant_of k s)
          ∙ coefficients_long (stretch k s) (log2_of k s.lw) (log2_of k s.lh)
      by false e = ap length (levels_not_run s k e) ∙ stretch_long k

-- what stands behind two lists
behind_two : (a b r : List ℤ) (n m : ℕ) → length a ≡ n → length b ≡ m → drop (n + m) (a ++ (b ++ r)) ≡ r
behind_two a b r n m ea eb = sym (drop-drop m n (a ++ (b ++ r))) ∙ ap (drop m) (drop_at a (b ++ r) n ea)
    ∙ drop_at b r m eb

-- three lists as long as the stretches, and a rest: each stands where the component's stretch does
module _ (s : SubBlock) (of : Component → List ℤ) (long : (k : Component) → length (of k) ≡ area k s)
    (rest : List ℤ) where
  abbrev joined : List ℤ
  joined = of Y ++ (of U ++ (of «V» ++ rest))

  abbrev tail : Component → List ℤ
  tail Y = of U ++ (of «V» ++ rest)
  tail U = of «V» ++ rest
  tail «V» = rest

  -- the buffer from a component's stretch on
  from : (k : Component) → drop (start k s) joined ≡ of k ++ tail k
  unfolding start
  from Y = refl
  from U = drop_at (of Y) (tail Y) (area Y s) (long Y)
  from «V» = behind_two (of Y) (of U) (tail U) (area Y s) (area U s) (long Y) (long U)

  pub joined_at : (k : Component) → take (area k s) (drop (start k s) joined) ≡ of k
  joined_at k = ap (take (area k s)) (from k) ∙ take_at (of k) (tail k) (area k s) (long k)

  pub joined_behind : behind s joined ≡ rest
  joined_behind =
      sym (drop-drop (area «V» s) (start «V» s) joined)
      ∙ ap (drop (area «V» s)) (from «V»)
      ∙ drop_at (of «V») (tail «V») (area «V» s) (long «V»)

-- ---- a component that is run, past the early tests
module _ (s : SubBlock) (early : EarlyPassed s) (k : Component) (run : runs k s ≡ true) where
  wide : outside 1 most_log2 (log2_of k s.lw) ≡ false
  wide = let i = sides_fine s early.settings in log2_inside k s.lw i.0.0 i.0.1

  high : outside 1 most_log2 (log2_of k s.lh) ≡ false
  high = let i = sides_fine s early.settings in log2_inside k s.lh i.1.0 i.1.1

  fills : length (stretch k s) ≡ 2 ^ log2_of k s.lw * 2 ^ log2_of k s.lh
  unfolding area
  fills = stretch_long s early k

  -- the quantiser alone says of its coefficients what the call says of them
  pub quantiser_alone_is_late : quant.quant_verdict (quant_of k s) ≡ late_of k s
  unfolding quant_of quant_on trans_of block.area
  quantiser_alone_is_late =
      let i = sides_fine s early.settings in
      alone_late (quant_of k s) wide high (qp_fine s early.settings k run) (lambda_fine s early.settings k run)
      (costs_fine s early.buffer)
      (omega (arith, coefficients_long (stretch k s) (log2_of k s.lw) (log2_of k s.lh)))
      (none_is_least (log2_of k s.lw) (log2_of k s.lh) (log2_high k s.lw i.0.1)
      (log2_high k s.lh i.1.1) (stretch k s) fills
      (residuals_tame s early.buffer k run))
      ∙ ap (λ (t : Bool). cond t (verdict late_faults (quant_of k s)) passed) (sym run)

-- ---- an accepted call
module _ (s : SubBlock) (ok : sub_block_verdict s ≡ passed) where
  early : EarlyPassed s
  early = early_passed s ok

  pub left_is : (k : Component) → left_in k s ≡ levels k s
  left_is k =
      ap (λ (l : List ℤ). take (area k s) (drop (start k s) l)) (buffer_whole s ok)
      ∙ joined_at s (λ k. levels k s) (levels_long s early) (behind s s.buffer) k

  accepted_surplus : behind s (sub_block_buffer s) ≡ behind s s.buffer
  accepted_surplus =
      ap (behind s) (buffer_whole s ok)
      ∙ joined_behind s (λ k. levels k s) (levels_long s early) (behind s s.buffer)

  -- the answer is the counts and prices of the three
  pub answer_of_three : sub_block_answer s ≡ coded (share Y s) (share U s) (share «V» s)
  answer_of_three = answer_whole s ∙ ap (λ (v : Outcome Unit). outcome v (share Y s) (share U s) (share «V» s)) ok

  -- ---- a component that is run
  module _ (k : Component) (run : runs k s ≡ true) where
    pub transform_accepts : trans_verdict (trans_of k s) ≡ passed
    unfolding trans_of places
    transform_accepts =
        block_accepted (trans_of k s) (wide s early k run) (high s early k run) (fills s early k run)
        (residuals_tame s early.buffer k run)

    after_is : quant_after k s ≡ quant_of k s
    unfolding trans_of places quant_of
    after_is =
        ap (quant_on k s)
        (block_leaves (trans_of k s) (wide s early k run) (high s early k run) (fills s early k run)
        (residuals_tame s early.buffer k run))

    quantiser_accepts : quant.quant_verdict (quant_of k s) ≡ passed
    quantiser_accepts = quantiser_alone_is_late s early k run ∙ late_passed s ok k

    pub quantiser_answers : quant.quant_answer (quant_after k s) ≡ quant.coded (count k s) (price k s)
    unfolding count price
    quantiser_answers =
        ap quant.quant_answer after_is
        ∙ answer_alone (quant_of k s)
        ∙ ap (λ (v : Outcome Unit). alone v (count_of (quant_of k s)) (price_of (quant_of k s))) quantiser_accepts
        ∙ ap (λ (t : Bool). quant.coded (cond t (count_of (quant_of k s)) 0) (cond t (price_of (quant_of k s)) 0)) (sym run)

    pub quantiser_leaves : left_in k s ≡ quant.quant_buffer (quant_after k s)
    quantiser_leaves =
        left_is k
        ∙ levels_run s k run
        ∙ sym (ap quant.quant_buffer after_is ∙ buffer_alone (quant_of k s) quantiser_accepts)

-- ---- every call
-- refused, it leaves what the buffer held
pub refused_left : (s : SubBlock) (n c : ℕ) → sub_block_verdict s ≡ refused n c → (k : Component)
    → left_in k s ≡ stretch k s
unfolding stretch
refused_left s n c v k = ap (λ (l : List ℤ). take (area k s) (drop (start k s) l)) (refused_leaves s n c v)

pub surplus_stays : (s : SubBlock) → behind s (sub_block_buffer s) ≡ behind s s.buffer
surplus_stays s = by (sub_block_verdict s) refl
  where
    by : (v : Outcome Unit) → sub_block_verdict s ≡ v → behind s (sub_block_buffer s) ≡ behind s s.buffer
    by (accepted t) e = accepted_surplus s e
    by (refused n c) e = ap (behind s) (refused_leaves s n c e)

module _ (s : SubBlock) (k : Component) (idle : runs k s ≡ false) where
  pub not_run_count : count k s ≡ 0
  unfolding count
  not_run_count = rw idle

  pub not_run_price : price k s ≡ 0
  unfolding price
  not_run_price = rw idle

  pub not_run_kept : left_in k s ≡ stretch k s
  not_run_kept = by (sub_block_verdict s) refl
    where
      by : (v : Outcome Unit) → sub_block_verdict s ≡ v → left_in k s ≡ stretch k s
      by (accepted u) e = left_is s e k ∙ levels_not_run s k idle
      by (refused n c) e = refused_left s n c e k
