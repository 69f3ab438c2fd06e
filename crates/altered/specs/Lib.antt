-- Which bytes of an accepted image may change, and what stays the same then.
pub mod Altered
pub mod Answers
