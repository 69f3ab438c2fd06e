-- What a journal says of itself (Summary), and what that says of recovery (Promises). Told is about the code alone.
pub mod Summary
pub mod Promises
pub mod Told
