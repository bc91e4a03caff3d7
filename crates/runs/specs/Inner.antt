-- What functions say to one another: nobody has to believe it, as the calls do not cite it.
pub mod Front
