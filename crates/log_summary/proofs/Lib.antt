-- Laws of the scan and of why it stops; the promises are in Theorems.
pub mod StopLaws
pub mod TellLaws
pub mod Theorems
pub mod Examples
