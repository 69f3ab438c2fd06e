pub mod Ways
pub mod Theorems
pub mod Shown
