-- Words read and laid, and the ways of the code.
pub mod Round
pub mod Laws
