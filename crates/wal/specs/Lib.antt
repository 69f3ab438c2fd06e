-- The write-ahead log. Read in this order.
pub mod Sums
pub mod Frames
pub mod State
pub mod Part
pub mod Recovered
pub mod View
pub mod Bounds
pub mod Whole
pub mod Told
pub mod Promises
