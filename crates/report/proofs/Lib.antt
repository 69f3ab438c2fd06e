-- Theorems has what is proved of good images; Examples, summaries by computing. Laws and Walk are what the proofs of the functions cite; Few, that distinct numbers below a bound are few.
pub mod Theorems
pub mod Laws
pub mod Walk
pub mod Few
pub mod Examples
