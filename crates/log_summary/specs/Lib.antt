-- What a log says of itself (Summary), in the code's words too (Told), and what that says of recovery (Promises).
pub mod Summary
pub mod Told
pub mod Promises
