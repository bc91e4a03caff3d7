-- A family of matrices with rows and columns exchanged: the inverse transform multiplies by it.
use Rattle.tables.specs.Matrix.{Matrices}

abbrev pub turned : Matrices → Matrices
turned M N n k = M N k n
