-- Parts of a buffer as lists: how long they are, what stands in them, and that a part falls apart at a newline. The
-- search speaks of places, the contracts of bytes, and these laws go from the one to the other.
use Prim.Native.Nat.{ℕ, suc, ◌+◌, ◌-◌, ◌≤◌, ◌<◌}
use mathlib.Core.Path.{◌≡◌, sym, ap, ◌∙◌}
use mathlib.Core.List.{List, ◌∷◌, ◌++◌}
use native.Mathlib.Numerals.{add-one}
use native.Mathlib.Omega.{arith}
use lib.ListN.{length, take, drop, get_or, length-drop}
use lib.Seq.{length-take-le, drop-cons, drop-drop, take-add, get_or-take, get_or-drop}
use Rattle.input.specs.Lines.{part, Free}
use Rattle.input.proofs.Search.{NoNewline}

module _ (buf : List ℕ) (from end : ℕ) (h : end ≤ length buf) where
  pub part_length : length (part buf from end) ≡ end - from
  part_length = length-take-le (end - from) (drop from buf) (simp length-drop (omega arith))

  -- no newline by places is none in the bytes
  pub free_part : NoNewline buf from end → Free (part buf from end)
  free_part none k l t =
      let m : k < end - from = omega (arith, part_length) in
      none (from + k) (omega arith) (omega arith)
      (sym (get_or-take (end - from) (drop from buf) k 0 m ∙ get_or-drop from buf k 0) ∙ t)

-- the bytes up to a newline, the newline, and the bytes behind it
module _ (buf : List ℕ) (from end have : ℕ) (order : from ≤ end) (below : end < have) (held : have ≤ length buf) where
  behind : take (have - end) (drop end buf) ≡ get_or buf end 0 ∷ part buf (end + 1) have
  behind =
      let e : have - end ≡ suc (have - (end + 1)) = omega arith in
      ap (λ (l : List ℕ). take (have - end) l) (drop-cons buf end 0 (omega arith))
      ∙ ap (λ (n : ℕ). take n (get_or buf end 0 ∷ drop (suc end) buf)) e
      ∙ ap (λ (n : ℕ). get_or buf end 0 ∷ take (have - (end + 1)) (drop n buf)) (sym (add-one end))

  pub part_split : get_or buf end 0 ≡ 10 → part buf from have ≡ part buf from end ++ (10 ∷ part buf (end + 1) have)
  part_split newline =
      let e : have - from ≡ end - from + (have - end) = omega arith in
      let f : from + (end - from) ≡ end = omega arith in
      ap (λ (n : ℕ). take n (drop from buf)) e
      ∙ take-add (end - from) (have - end) (drop from buf)
      ∙ ap (λ (l : List ℕ). part buf from end ++ take (have - end) l)
      (drop-drop (end - from) from buf ∙ ap (λ (n : ℕ). drop n buf) f)
      ∙ ap (λ (l : List ℕ). part buf from end ++ l)
      (behind ∙ ap (λ (x : ℕ). x ∷ part buf (end + 1) have) newline)
