-- A leaf page checked in one pass: what its parts find, and what the whole says.
pub mod Ends
pub mod Way
pub mod Scan
pub mod Calm
