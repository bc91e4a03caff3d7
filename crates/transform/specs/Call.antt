-- `trans`: its faults in order, its answer, and what its buffer then holds, as functions of all its inputs.
use Rattle.std.specs.Prelude.{Bool, ◌||◌, List, [], ◌∷◌, ◌++◌, ℕ, ◌*◌, ◌^◌, ltb, length, take, drop, ℤ, nat_abs}
use Rattle.integers.specs.Tests.{some}
use Rattle.refusals.specs.declared.Refusal.TheVariants.{Side, Length, Sample}
use Rattle.refusals.specs.Sides.{most_log2}
use Rattle.refusals.specs.Faults.{Fault, of_none, outside, Outcome, verdict, if_accepted}
use Rattle.transform.specs.Coefficients.{coefficients}

-- the inputs: a buffer that begins with the residuals of a block by rows, and the block's log2 sides
pub record Trans : Type 0 where
  pub buffer : List ℤ
  pub lw : ℕ
  pub lh : ℕ

abbrev pub called : List ℤ → (lw lh : ℕ) → Trans
called buffer lw lh = record { buffer = buffer; lw = lw; lh = lh }

unfoldable pub places : Trans → ℕ
places t = 2 ^ t.lw * 2 ^ t.lh

-- a residual that no camera block has
abbrev pub wild : ℤ → Bool
wild z = ltb 1023 (nat_abs z)

unfoldable pub side_fault : Fault Trans
side_fault =
    record {
      refusal = Side;
      component = of_none;
      holds = λ t. outside 1 most_log2 t.lw || outside 1 most_log2 t.lh;
    }

unfoldable pub length_fault : Fault Trans
unfolding places
length_fault = record { refusal = Length; component = of_none; holds = λ t. ltb (length t.buffer) (places t) }

unfoldable pub sample_fault : Fault Trans
unfolding places some
sample_fault = record { refusal = Sample; component = of_none; holds = λ t. some wild (take (places t) t.buffer) }

unfoldable pub trans_faults : List (Fault Trans)
unfolding side_fault length_fault sample_fault
trans_faults = side_fault ∷ length_fault ∷ sample_fault ∷ []

-- the answer, which is the verdict
unfoldable pub trans_verdict : Trans → Outcome Unit
unfolding trans_faults verdict
trans_verdict t = verdict trans_faults t

-- an accepted buffer holds the coefficients in front, and its surplus; a refused one what it held
unfoldable pub transformed : Trans → List ℤ
unfolding coefficients places
transformed t = coefficients t.buffer t.lw t.lh ++ drop (places t) t.buffer

unfoldable pub trans_buffer : Trans → List ℤ
unfolding trans_verdict transformed
trans_buffer t = let c = transformed t in if_accepted (trans_verdict t) c t.buffer
