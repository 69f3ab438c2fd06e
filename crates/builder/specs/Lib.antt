-- What the builder counts, refuses and answers, and what holds of its file.
pub mod Build
pub mod Plan
pub mod Fresh
pub mod Built
