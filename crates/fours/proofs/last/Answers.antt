-- `fours::last` meets its contract: each of the four sums is a value, and is settled.
use mathlib.Core.Path.{◌≡◌}
use mathlib.Core.List.{List}
use Rattle.std.proofs.Common.{arith}
use Rattle.std.proofs.lemmas.Int.{to_z-of_z}
use lib.ListN.{length}
use lib.IntN.{ℤ}
use Rattle.integers.specs.Sum.{at}
use Rattle.unfold.specs.Inner.Back.{Within, most_value}
use Rattle.fours.specs.Inner.Last.{last_of}
use Rattle.fours.proofs.Four.{Fits, all_fit, value_0, value_1, value_2, value_3, four_listed}
use Rattle.fours.proofs.last.Goals as goal

-- none of the four sums is larger than a value can be
fit : (x : List ℤ) → length x ≡ 4 → Within most_value x → Fits (at x)
fit x e w = all_fit (at x) (λ k h. w k (omega arith))

pub overflow_add-p-2 : goal.overflow_add-p-2
overflow_add-p-2 c =
    let k = fit c.args.x.now c.requires.0 c.requires.1 in
    grind (arith, to_z-of_z)

pub settle-requires : goal.settle-requires
settle-requires c =
    let k = fit c.args.x.now c.requires.0 c.requires.1 in
    grind (arith, to_z-of_z)

pub overflow_add-q : goal.overflow_add-q
overflow_add-q c =
    let k = fit c.args.x.now c.requires.0 c.requires.1 in
    grind (arith, to_z-of_z)

pub settle-requires-2 : goal.settle-requires-2
settle-requires-2 c =
    let k = fit c.args.x.now c.requires.0 c.requires.1 in
    grind (arith, to_z-of_z)

pub overflow_sub-q-2 : goal.overflow_sub-q-2
overflow_sub-q-2 c =
    let k = fit c.args.x.now c.requires.0 c.requires.1 in
    grind (arith, to_z-of_z)

pub settle-requires-3 : goal.settle-requires-3
settle-requires-3 c =
    let k = fit c.args.x.now c.requires.0 c.requires.1 in
    grind (arith, to_z-of_z)

pub overflow_sub-p : goal.overflow_sub-p
overflow_sub-p c =
    let k = fit c.args.x.now c.requires.0 c.requires.1 in
    grind (arith, to_z-of_z)

pub settle-requires-4 : goal.settle-requires-4
settle-requires-4 c =
    let k = fit c.args.x.now c.requires.0 c.requires.1 in
    grind (arith, to_z-of_z)

pub returns : goal.returns
returns c =
    let x = c.args.x.now in
    let k = fit x c.requires.0 c.requires.1 in
    let e₀ = value_0 (at x) in
    let e₁ = value_1 (at x) in
    let e₂ = value_2 (at x) in
    let e₃ = value_3 (at x) in
    four_listed (last_of (at x)) _ _ _ _ (grind (arith, to_z-of_z)) (grind (arith, to_z-of_z))
    (grind (arith, to_z-of_z)) (grind (arith, to_z-of_z))
