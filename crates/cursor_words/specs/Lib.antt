-- A cursor as words.
pub mod Words
pub mod Told
