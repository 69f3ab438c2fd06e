-- Laws of headers and records counted; the promises are in Theorems.
pub mod StopLaws
pub mod TallyLaws
pub mod GoingLaws
pub mod TellLaws
pub mod Theorems
pub mod Examples
