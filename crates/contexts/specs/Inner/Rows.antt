-- Where code finds the rows of the cost tables that a component reads.
use Rattle.std.specs.Prelude.{◌≡◌, Bool}
use Rattle.refusals.specs.declared.Component.{Component}
use Rattle.price.specs.Costs.{Rows}
use Rattle.price.specs.Rows.{rows_of}
use Rattle.contexts.specs.declared.Contexts.{Contexts}

abbrev pub rows_in : Contexts → Rows
rows_in at = record { run = at.run; level = at.level; last = at.last; cbf = at.cbf }

abbrev pub ContextsOf : Component → Bool → Contexts → Type 0
ContextsOf k intra_coded at = rows_in at ≡ rows_of k intra_coded
