-- What functions say to one another: nobody has to believe it, as what a call promises does not cite it.
pub mod Trial
pub mod Whole
