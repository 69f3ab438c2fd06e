-- Laws of sums, of frames and of the last commit; the promises are in Theorems.
pub mod SumLaws
pub mod FrameLaws
pub mod ScanLaws
pub mod OrderLaws
pub mod MarkLaws
pub mod ViewLaws
pub mod RecoverLaws
pub mod TakeLaws
pub mod ShownLaws
pub mod CutLaws
pub mod AgreeLaws
pub mod Theorems
pub mod Grows
pub mod Succeeds
pub mod Examples
