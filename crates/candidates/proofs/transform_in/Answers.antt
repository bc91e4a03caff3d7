-- `candidates::transform_in` meets its contract: tame residuals are accepted.
use mathlib.Core.Path.{◌≡◌, ap, ◌∙◌}
use mathlib.Core.Bool.{false}
use mathlib.Core.List.{List}
use Prim.Native.Nat.{ℕ, ◌≤◌}
use lib.IntN.{ℤ}
use borrow.Author.Tests.{le-leb}
use Rattle.refusals.specs.Sides.{most_log2}
use Rattle.refusals.specs.Faults.{outside}
use Rattle.transform.specs.Call.{called, places, trans_buffer}
use Rattle.components.proofs.Blocks.{block_leaves}
use Rattle.candidates.proofs.transform_in.Goals as goal

in_range : (l : ℕ) → 1 ≤ l → l ≤ most_log2 → outside 1 most_log2 l ≡ false
in_range l g h = rw (le-leb 1 l g, le-leb l most_log2 h)

pub returns : goal.returns
unfolding places
returns c =
    let l = c.args.side.log2 in
    let i = in_range l c.args.side.in_range.0 c.args.side.in_range.1 in
    c.trans.ensures.buffer
    ∙ ap (λ (b : List ℤ). trans_buffer (called b l l)) c.copy_from_slice.ensures.after
    ∙ block_leaves (called c.args.residuals.now l l) i i c.requires.0 c.requires.2
