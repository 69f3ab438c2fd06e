pub mod Prefix
pub mod ReadingLaws
pub mod Laws
