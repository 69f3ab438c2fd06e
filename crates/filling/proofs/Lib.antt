pub mod GroupNext
pub mod Taken
pub mod Sums
pub mod Loops
pub mod Match
