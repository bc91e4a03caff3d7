-- A room cut in three, one part behind the other: each is its component's.
use mathlib.Core.Path.{◌≡◌, sym, ◌∙◌}
use mathlib.Core.List.{List}
use Prim.Native.Nat.{ℕ, ◌+◌, ◌/◌}
use native.Mathlib.Omega.{arith}
use lib.ListN.{length, take, drop, length-drop}
use lib.Seq.{drop-drop, take_all}
use lib.IntN.{ℤ}
use Rattle.refusals.specs.declared.Component.TheVariants.{U, «V»}
use Rattle.admission.specs.Inner.Tested.{residuals}

module _ (room : List ℤ) (n m : ℕ) (quarter : m ≡ n / 4) {rest : List ℤ} (cut : rest ≡ drop n room) where
  pub second_part : {part : List ℤ} → part ≡ take m rest → part ≡ residuals U n room
  second_part e = e ∙ (λ i. take (quarter i) (cut i))

  pub third_part : length room ≡ n + n / 4 + n / 4 → {part : List ℤ} → part ≡ drop m rest → part ≡ residuals «V» n room
  third_part long e =
      e
      ∙ (λ i. drop (quarter i) (cut i))
      ∙ drop-drop (n / 4) n room
      ∙ sym (take_all (n / 4) (drop (n + n / 4) room) (simp length-drop (omega arith)))
