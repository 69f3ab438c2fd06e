-- What is asked of an image where the caller names roots.
pub mod Names
pub mod Good
