pub mod Theorems
pub mod OneList
pub mod LockPage
pub mod Deleted
pub mod Images
pub mod GoodImages
pub mod NamedImages
pub mod Signals
