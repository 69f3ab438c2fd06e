-- Sums that tell lists of numbers apart, and how much of a list a call filled.
pub mod Adler
pub mod Counts
