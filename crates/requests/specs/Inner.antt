-- What functions say to one another: nobody has to believe it, as what a line asks for does not cite it.
pub mod Left
