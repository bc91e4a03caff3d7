-- A reply made by what a call left is the answer line that shows it: by the result of the call, its answer and its
-- buffer, of any call; then for those that answer a verdict alone, and for each of the others.
use mathlib.Core.Path.{◌≡◌, refl}
use mathlib.Core.Bool.{Bool, true, false, cond}
use mathlib.Core.List.{List, [], ◌∷◌}
use Rattle.std.proofs.Common.{Option, Some, None}
use Prim.Native.Nat.{ℕ, ◌≤◌}
use native.Mathlib.Omega.{arith}
use lib.Dec.{eqb}
use lib.IntN.{ℤ}
use lib.ListN.{length, get_or, take}
use Rattle.replies.specs.declared.Reply.{Reply}
use Rattle.replies.specs.Reply.{reply_text}
use Rattle.refusals.specs.Faults.{Outcome}
use Rattle.runs.specs.Call.{Write}
use Rattle.coding.specs.Block.{Quant}
use Rattle.components.specs.Call.{SubBlock}
use Rattle.heights.specs.Call.{Measure}
use Rattle.guarding.specs.Call.{GuardedBlock}
use Rattle.surface.specs.Surface.{VerdictLeft, QuantLeft, ThreeLeft, GuardedLeft, MeasureLeft, WriteLeft}
use Rattle.calls.specs.Calls.{shown, verdict_text, quant_text, three_text, guarded_numbers, guarded_text, measure_text}
use Rattle.calls.specs.Calls.{write_text}
use Rattle.calls.specs.Inner.Replied.{zeros, reply_by, Replied}

module _ (result component count : ℕ) (numbers : List ℕ) (before : List ℤ) (list : Option (List ℕ))
    (after : List ℤ) where
  -- by the test of the result
  accepted_or_refused : (b : Bool)
      → let yes : Reply = record { accepted = true; count = count; numbers = numbers } in
      let no : Reply = record { accepted = false; count = 2; numbers = result ∷ component ∷ zeros 10 } in
      count ≤ 12 → length after ≡ length before
      → Replied
      (cond b (reply_text true (take count numbers) list after) (reply_text false (result ∷ component ∷ []) list after))
      before (cond b yes no) list after
  accepted_or_refused true h e = record { is = refl; few = h; kept = e }
  accepted_or_refused false h e = record { is = refl; few = omega arith; kept = e }

  replied_by : count ≤ 12 → length after ≡ length before
      → Replied (shown result component (take count numbers) list after) before
      (reply_by result component count numbers) list after
  replied_by = accepted_or_refused (eqb result 0)

  pub replied : (q : Reply) (text : List ℕ) → q ≡ reply_by result component count numbers → count ≤ 12
      → length after ≡ length before → shown result component (take count numbers) list after ≡ text
      → Replied text before q list after
  replied q text e h k s = rw (e, ← s) (replied_by h k)

-- ---- what a call left, shown
pub verdict_shown : (verdict : Outcome Unit) (list : Option (List ℕ)) (buffer : List ℤ) (r : ℕ) (block : List ℤ)
    → VerdictLeft verdict buffer r block → shown r 0 [] list block ≡ verdict_text verdict list buffer
verdict_shown verdict list buffer r block h = rw (h.result, h.left)

pub quant_shown : (c : Quant) (r : ℕ) (answer : List ℕ) (block : List ℤ) → QuantLeft c r answer block
    → shown r (get_or answer 0 0) (get_or answer 1 0 ∷ get_or answer 2 0 ∷ []) None block ≡ quant_text c
quant_shown c r answer block h = rw (h.result, h.written, h.left)

pub three_shown : (s : SubBlock) (r : ℕ) (w : List ℕ) (buffer : List ℤ) → ThreeLeft s r w buffer
    → shown r (get_or w 0 0) (get_or w 1 0 ∷ get_or w 4 0 ∷ get_or w 2 0 ∷ get_or w 5 0 ∷ get_or w 3 0 ∷ get_or w 6 0 ∷ [])
    None buffer ≡ three_text s
three_shown s r w buffer h = rw (h.result, h.written, h.left)

pub guarded_shown : (g : GuardedBlock) (r : ℕ) (w : List ℕ) (buffer : List ℤ) → GuardedLeft g r w buffer
    → shown r (get_or w 0 0) (guarded_numbers w) None buffer ≡ guarded_text g
guarded_shown g r w buffer h = rw (h.result, h.written, h.left)

pub measure_shown : (m : Measure) (r : ℕ) (w : List ℕ) (samples : List ℤ) → MeasureLeft m r w
    → shown r 0 (get_or w 0 0 ∷ get_or w 1 0 ∷ []) None samples ≡ measure_text m samples
measure_shown m r w samples h = rw (h.result, h.written)

pub write_shown : (w : Write) (r : ℕ) (answer list : List ℕ) → WriteLeft w r answer list
    → shown r 0 (get_or answer 0 0 ∷ []) (Some list) w.buffer ≡ write_text w
write_shown w r answer list h = rw (h.result, h.written, h.left)
