-- Laws of the rules' numbers.
pub mod Laws
