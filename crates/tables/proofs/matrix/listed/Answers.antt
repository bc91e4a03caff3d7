-- `tables::matrix::listed` meets its contract: the 1,364 listed numbers are the rule's, by one computed test.
use mathlib.Core.Path.{refl}
use Rattle.tables.specs.Matrix.{five_matrices}
use Rattle.tables.proofs.matrix.listed.Goals as goal

pub returns : goal.returns
unfolding five_matrices
returns c = refl
