-- The first symbol of a list, and whether it is wrong where it stands: how a list is looked through from its front.
use Rattle.std.specs.Prelude.{Bool, true, false, not, ◌||◌, List, [], ◌∷◌, ℕ, suc, eqb, ltb}
use Rattle.runs.specs.Packing.{unpacked, overfull}

abbrev pub is_empty : {A : Type 0} → List A → Bool
is_empty [] = true
is_empty (x ∷ xs) = false

-- a last mark that the last symbol lacks, or that another has
abbrev pub wrong_mark : (last final : Bool) → Bool
wrong_mark last true = not last
wrong_mark last false = last

-- u is wrong with n places left, as the list's final symbol or as another
unfoldable pub wrong_here : (bits n u : ℕ) → (final : Bool) → Bool
unfolding unpacked overfull
wrong_here bits n u final =
    let s = unpacked bits u in
    eqb s.magnitude 0 || overfull bits u || ltb n (suc s.run) || wrong_mark s.last final
