-- Two stages, one over the lines and one over the columns, are the double sum over the block. Of any family of matrices:
-- the forward transform has T here, the inverse T with rows and columns exchanged.
use mathlib.Core.Path.{◌≡◌, sym, ◌∙◌, ap}
use mathlib.Core.List.{List}
use Prim.Native.Nat.{ℕ, ◌+◌, ◌*◌, ◌<◌}
use lib.IntN.{ℤ, ◌*ℤ◌}
use Rattle.integers.specs.Sum.{on_ℤ, sum_ℤ, at}
use Rattle.integers.proofs.Ring.{*-assoc}
use Rattle.integers.proofs.Sums.{sum_ext}
use Rattle.integers.proofs.Fold.{sum_times}
use Rattle.tables.specs.Matrix.{Matrices}
use Rattle.stages.specs.Inner.Stages.{stage_at}

-- b holds the sums of the first stage, column u as a line
pub two_stages : (M : Matrices) (w h : ℕ) (r b : List ℤ) (u v : ℕ)
    → ((y : ℕ) → y < h → at b (u * h + y) ≡ stage_at M w r y u)
    → stage_at M h b u v ≡ sum_ℤ h (λ y. sum_ℤ w (λ x. (M h v y *ℤ M w u x) *ℤ at r (y * w + x)))
unfolding stage_at
two_stages M w h r b u v first =
    sum_ext on_ℤ h (λ y. M h v y *ℤ at b (u * h + y))
    (λ y. sum_ℤ w (λ x. (M h v y *ℤ M w u x) *ℤ at r (y * w + x)))
    (λ y hy.
    ap (λ (z : ℤ). M h v y *ℤ z) (first y hy)
    ∙ sym (sum_times w (M h v y) (λ x. M w u x *ℤ at r (y * w + x)))
    ∙ sum_ext on_ℤ w (λ x. M h v y *ℤ (M w u x *ℤ at r (y * w + x)))
    (λ x. (M h v y *ℤ M w u x) *ℤ at r (y * w + x))
    (λ x hx. sym (*-assoc (M h v y) (M w u x) (at r (y * w + x)))))
