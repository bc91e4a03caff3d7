-- Which rows of the cost tables a component reads.
use Rattle.std.specs.Prelude.{Bool, cond}
use Rattle.refusals.specs.declared.Component.{Component}
use Rattle.refusals.specs.declared.Component.TheVariants.{Y, U, «V»}
use Rattle.price.specs.Costs.{Rows}

-- cbf's are all, luma, cb, cr; luma's is all when not intra-coded
unfoldable pub rows_of : Component → Bool → Rows
rows_of Y intra_coded = record { run = 0; level = 0; last = 0; cbf = cond intra_coded 1 0 }
rows_of U intra_coded = record { run = 2; level = 2; last = 1; cbf = 2 }
rows_of «V» intra_coded = record { run = 2; level = 2; last = 1; cbf = 3 }
