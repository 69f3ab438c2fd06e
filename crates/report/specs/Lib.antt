-- Read from the top: a summary of reals; what a row gives; the report over all rows; and what that means for a good image.
pub mod Reported
pub mod Summary
pub mod Level
pub mod Rows
pub mod Report
pub mod Told
pub mod Means
