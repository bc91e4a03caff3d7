pub mod Symmetry
pub mod RowSums
pub mod OddRows
pub mod Turned
pub mod ErrorScale
pub mod Range
