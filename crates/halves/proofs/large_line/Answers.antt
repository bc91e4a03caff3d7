-- `halves::large_line` meets its contract: the line is cut into its halves and its rests, each part is transformed, and
-- the two rows join to the halves of the line's own.
use mathlib.Core.Path.{◌≡◌, refl, ◌∙◌}
use mathlib.Core.List.{List}
use Prim.Native.Nat.{ℕ, ◌<◌, ◌≤◌}
use native.Mathlib.Omega.{arith}
use lib.ListN.{length}
use lib.IntN.{ℤ, nat_abs}
use Rattle.integers.specs.Sum.{at}
use Rattle.butterfly.specs.Inner.Lines.{place}
use Rattle.columns.proofs.Places.{place_inside}
use Rattle.halves.specs.Inner.Halves.{half, over}
use Rattle.halves.proofs.Halves.{Cut, halves_room, rests_room, parts_fit, parts_join}
use Rattle.halves.proofs.large_line.Goals as goal

cut : (x u v : List ℤ) → length x ≡ 32 → ((i : ℕ) → i < 32 → nat_abs (at x i) ≤ 2095104)
    → ((i : ℕ) → i < length x → at u i ≡ half (at x i)) → ((i : ℕ) → i < length x → at v i ≡ over (at x i)) → Cut x u v
cut x u v long small halves rests =
    record { small = small; halves = λ i h. halves i (omega arith); rests = λ i h. rests i (omega arith) }

pub line32-requires : goal.line32-requires
line32-requires c = (
  omega arith,
  omega arith,
  halves_room _ _ _ (cut c.args.x.now c.halve.new.h c.leave.new.v c.requires.0 c.requires.2
      c.halve.ensures c.leave.ensures) (omega arith),
)

pub line32-requires-2 : goal.line32-requires-2
line32-requires-2 c = (
  omega arith,
  omega arith,
  rests_room _ _ _ (cut c.args.x.now c.halve.new.h c.leave.new.v c.requires.0 c.requires.2
      c.halve.ensures c.leave.ensures) (omega arith),
)

pub join-requires-clause-by_index : goal.join-requires-clause-by_index
join-requires-clause-by_index c = λ i h.
    parts_fit _ _ _ (cut c.args.x.now c.halve.new.h c.leave.new.v c.requires.0 c.requires.2
    c.halve.ensures c.leave.ensures) c.line32.new.row c.line32-2.new.row c.line32.ensures.holds
    c.line32-2.ensures.holds i (omega arith)

pub returns : goal.returns
returns c = λ k h.
    c.join.ensures (place 5 k) (omega (arith, place_inside 5 (omega arith) 32 refl k h))
    ∙ parts_join _ _ _ (cut c.args.x.now c.halve.new.h c.leave.new.v c.requires.0 c.requires.2
    c.halve.ensures c.leave.ensures) c.line32.new.row c.line32-2.new.row c.line32.ensures.holds
    c.line32-2.ensures.holds k h
