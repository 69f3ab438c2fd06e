-- Theorems has what is proved of good images. Ways and Next are what the proofs of the functions cite; Round, that a path laid into a cursor is read back.
pub mod Theorems
pub mod Ways
pub mod Next
pub mod Round
