-- Theorems has what the format and the comparison mean, Examples the one that was asked for. Laws are what the proofs of code cite.
pub mod Theorems
pub mod Examples
pub mod Laws
