-- What an image's first hundred bytes must say before anything else of it is read.
pub mod Pages
pub mod Header
pub mod Told
