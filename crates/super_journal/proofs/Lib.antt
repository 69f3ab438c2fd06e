pub mod Sums
mod Examples
