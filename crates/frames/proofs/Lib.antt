-- Laws of the table; the promises are in Theorems.
pub mod LateLaws
pub mod FillLaws
pub mod PartLaws
pub mod Theorems
pub mod Examples
