-- What functions say to one another: nobody has to believe it, as what a call promises does not cite it.
pub mod Modest
pub mod Prices
pub mod Offers
pub mod Places
pub mod Choosing
pub mod Chosen
