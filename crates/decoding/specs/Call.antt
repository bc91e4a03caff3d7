-- `scale_back` and `inverse`: their faults in order, their answers, and what their buffers then hold, as functions of
-- all their inputs. No sample is refused.
use Rattle.std.specs.Prelude.{◌||◌, List, [], ◌∷◌, ◌++◌, ℕ, ◌*◌, ◌^◌, ltb, length, drop, ℤ}
use Rattle.refusals.specs.declared.Refusal.TheVariants.{Side, Qp, Length}
use Rattle.refusals.specs.Sides.{most_log2}
use Rattle.refusals.specs.Faults.{Fault, of_none, outside, Outcome, verdict, if_accepted}
use Rattle.tables.specs.Scales.{back}
use Rattle.decoding.specs.Scaling.{coefficients_back}
use Rattle.decoding.specs.Inverse.{residuals}

-- ---- scaling back: a buffer that begins with the levels of a square block by rows, its log2 side, a QP, a row of
-- scales
pub record ScaleBack : Type 0 where
  pub buffer : List ℤ
  pub l : ℕ
  pub qp : ℕ
  pub row : List ℕ

-- the call, which has the row of ticket 6
abbrev pub levels_lent : List ℤ → (l qp : ℕ) → ScaleBack
levels_lent buffer l qp = record { buffer = buffer; l = l; qp = qp; row = back }

unfoldable pub square_fault : Fault ScaleBack
square_fault = record { refusal = Side; component = of_none; holds = λ s. outside 1 most_log2 s.l }

unfoldable pub qp_fault : Fault ScaleBack
qp_fault = record { refusal = Qp; component = of_none; holds = λ s. ltb 63 s.qp }

unfoldable pub square_length_fault : Fault ScaleBack
square_length_fault =
    record { refusal = Length; component = of_none; holds = λ s. ltb (length s.buffer) (2 ^ s.l * 2 ^ s.l) }

unfoldable pub scale_faults : List (Fault ScaleBack)
unfolding square_fault qp_fault square_length_fault
scale_faults = square_fault ∷ qp_fault ∷ square_length_fault ∷ []

-- the answer, which is the verdict
unfoldable pub scale_verdict : ScaleBack → Outcome Unit
unfolding scale_faults verdict
scale_verdict s = verdict scale_faults s

-- an accepted buffer holds the coefficients in front, and its surplus; a refused one what it held
unfoldable pub scaled : ScaleBack → List ℤ
unfolding coefficients_back
scaled s = coefficients_back s.row s.l s.qp s.buffer ++ drop (2 ^ s.l * 2 ^ s.l) s.buffer

unfoldable pub scale_buffer : ScaleBack → List ℤ
unfolding scale_verdict scaled
scale_buffer s = let after = scaled s in if_accepted (scale_verdict s) after s.buffer

-- ---- the inverse transform: a buffer that begins with the coefficients of a block by rows, the block's log2 sides
pub record Inverse : Type 0 where
  pub buffer : List ℤ
  pub lw : ℕ
  pub lh : ℕ

abbrev pub coefficients_lent : List ℤ → (lw lh : ℕ) → Inverse
coefficients_lent buffer lw lh = record { buffer = buffer; lw = lw; lh = lh }

unfoldable pub places : Inverse → ℕ
places t = 2 ^ t.lw * 2 ^ t.lh

unfoldable pub side_fault : Fault Inverse
side_fault =
    record {
      refusal = Side;
      component = of_none;
      holds = λ t. outside 1 most_log2 t.lw || outside 1 most_log2 t.lh;
    }

unfoldable pub length_fault : Fault Inverse
unfolding places
length_fault = record { refusal = Length; component = of_none; holds = λ t. ltb (length t.buffer) (places t) }

unfoldable pub inverse_faults : List (Fault Inverse)
unfolding side_fault length_fault
inverse_faults = side_fault ∷ length_fault ∷ []

unfoldable pub inverse_verdict : Inverse → Outcome Unit
unfolding inverse_faults verdict
inverse_verdict t = verdict inverse_faults t

-- an accepted buffer holds the residuals in front, and its surplus; a refused one what it held
unfoldable pub restored : Inverse → List ℤ
unfolding residuals places
restored t = residuals t.buffer t.lw t.lh ++ drop (places t) t.buffer

unfoldable pub inverse_buffer : Inverse → List ℤ
unfolding inverse_verdict restored
inverse_buffer t = let after = restored t in if_accepted (inverse_verdict t) after t.buffer
