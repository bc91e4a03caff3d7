-- What functions say to one another: nobody has to believe it, as the calls' contracts do not cite it.
pub mod Beside
