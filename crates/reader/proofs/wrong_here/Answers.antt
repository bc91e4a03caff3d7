-- `reader::wrong_here` meets its contract: its tests are those of the definition, one after the other.
use Rattle.std.proofs.Common.{◌≡◌, ◌||◌, suc, refl, sym, ◌∙◌}
use borrow.Author.Tests.{eq-eqb, ne_eqb}
use lib.Dec.{eqb, ltb}
use Rattle.runs.specs.Packing.{run_bits, overfull}
use Rattle.reader.proofs.Wrong.{past, found, by_mark}
use Rattle.reader.proofs.wrong_here.Goals as goal
use Rattle.reader.proofs.wrong_here.Goals.{Joined-overfull, then-empty, else-empty, then-overfull, else-overfull}

-- what the first three tests come to
first_tests : (c : Joined-overfull)
    → c.if-overfull.value
    ≡ ((eqb c.unpack-s.result.magnitude 0 || overfull run_bits c.args.u) || ltb c.args.left (suc c.unpack-s.result.run))
first_tests c =
    let s = c.unpack-s.result in
    let first : c.if-empty.value ≡ (eqb s.magnitude 0 || overfull run_bits c.args.u) =
    elim c.if-empty.branch [
      | then-empty w ↦ w.value-is ∙ rw (eq-eqb s.magnitude 0 w.if-empty.true) refl
      | else-empty w ↦ rw (ne_eqb s.magnitude 0 w.if-empty.false) (w.value-is ∙ w.overfull.ensures)
    ] in
    rw (← first)
    (elim c.if-overfull.branch [
      | then-overfull w ↦ w.value-is ∙ rw w.if-overfull.true refl
      | else-overfull w ↦ rw w.if-overfull.false (w.value-is ∙ past c.args.left s.run)
    ])

pub returns-then-left-s : goal.returns-then-left-s
returns-then-left-s c =
    c.if-left-s.true
    ∙ found run_bits c.args.left c.args.u c.args.final_ _ c.unpack-s.ensures
    (sym (first_tests (goal.at.returns-then-left-s c).Joined-overfull) ∙ c.if-left-s.true)

pub returns-else-left-s : goal.returns-else-left-s
returns-else-left-s c =
    by_mark run_bits c.args.left c.args.u c.args.final_ _ c.unpack-s.ensures
    (sym (first_tests (goal.at.returns-else-left-s c).Joined-overfull) ∙ c.if-left-s.false)
