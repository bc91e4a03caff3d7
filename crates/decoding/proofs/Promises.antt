-- What scaling back promises of an accepted buffer, place by place: the front holds each level scaled back by itself,
-- and so has what Scaling.antt says of a level; the surplus is as it was.
-- Assumes nothing.
use mathlib.Core.Path.{◌≡◌, sym, ap, subst, ◌∙◌}
use mathlib.Core.Logic.{◌⊎◌}
use mathlib.Core.List.{◌++◌, map}
use Prim.Native.Nat.{ℕ, ◌*◌, ◌^◌, ◌≤◌, ◌<◌}
use native.Mathlib.Omega.{arith}
use borrow.Author.Tests.{ltb-false}
use lib.ListN.{length, take, drop, length-map, get_or-append}
use lib.Seq.{length-take-le, get_or-take, drop_at}
use lib.IntN.{ℤ, pos, nat_abs}
use lib.Signed.{non_neg}
use Rattle.integers.specs.Sum.{at}
use Rattle.integers.proofs.Lists.{map_at}
use Rattle.refusals.specs.Faults.{passed}
use Rattle.refusals.proofs.First.{no_fault_if_accepted, head_fails, rest_fails}
use Rattle.decoding.specs.Scaling.{scaled_back, coefficients_back}
use Rattle.decoding.specs.Call.{ScaleBack, square_length_fault, scale_faults, scale_verdict, scaled, scale_buffer}
use Rattle.decoding.proofs.Scaling.{zero_or_the_level's_sign, larger_magnitude_no_smaller}

-- how many places the block has
abbrev pub area : ScaleBack → ℕ
area s = 2 ^ s.l * 2 ^ s.l

module _ (s : ScaleBack) (ok : scale_verdict s ≡ passed) where
  long : area s ≤ length s.buffer
  unfolding scale_verdict scale_faults square_length_fault
  long =
      ltb-false (length s.buffer) (area s)
      (head_fails s (rest_fails s (rest_fails s (no_fault_if_accepted s scale_faults ok))))

  after : scale_buffer s
      ≡ map (scaled_back s.row s.l s.qp) (take (area s) s.buffer) ++ drop (area s) s.buffer
  unfolding scale_buffer scaled coefficients_back
  after = rw ok

  front : length (map (scaled_back s.row s.l s.qp) (take (area s) s.buffer)) ≡ area s
  front =
      length-map (take (area s) s.buffer) (scaled_back s.row s.l s.qp)
      ∙ length-take-le (area s) s.buffer long

  pub coefficient_is : (k : ℕ) → k < area s
      → at (scale_buffer s) k ≡ scaled_back s.row s.l s.qp (at s.buffer k)
  coefficient_is k h =
      let f = scaled_back s.row s.l s.qp in
      let levels = take (area s) s.buffer in
      ap (λ l. at l k) after
      ∙ get_or-append (map f levels) (drop (area s) s.buffer) (pos 0) k (omega (arith, front))
      ∙ map_at (pos 0) (pos 0) f levels k (omega (arith, length-take-le (area s) s.buffer long))
      ∙ ap f (get_or-take (area s) s.buffer k (pos 0) h)

  pub coefficient_zero_or_its_level's_sign : (k : ℕ) → k < area s
      → (at (scale_buffer s) k ≡ pos 0) ⊎ (non_neg (at (scale_buffer s) k) ≡ non_neg (at s.buffer k))
  coefficient_zero_or_its_level's_sign k h =
      subst (λ (z : ℤ). (z ≡ pos 0) ⊎ (non_neg z ≡ non_neg (at s.buffer k))) (sym (coefficient_is k h))
      (zero_or_the_level's_sign s.row s.l s.qp (at s.buffer k))

  -- of two levels of one sign
  pub larger_level_no_smaller_coefficient : (j k : ℕ) → j < area s → k < area s
      → non_neg (at s.buffer j) ≡ non_neg (at s.buffer k) → nat_abs (at s.buffer j) ≤ nat_abs (at s.buffer k)
      → nat_abs (at (scale_buffer s) j) ≤ nat_abs (at (scale_buffer s) k)
  larger_level_no_smaller_coefficient j k hj hk sign h =
      rw (coefficient_is j hj, coefficient_is k hk)
      (larger_magnitude_no_smaller s.row s.l s.qp (at s.buffer j) (at s.buffer k) sign h)

  pub surplus_kept : drop (area s) (scale_buffer s) ≡ drop (area s) s.buffer
  surplus_kept =
      ap (drop (area s)) after
      ∙ drop_at (map (scaled_back s.row s.l s.qp) (take (area s) s.buffer)) (drop (area s) s.buffer)
      (area s) front
