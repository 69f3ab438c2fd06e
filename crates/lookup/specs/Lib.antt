-- Read from the top: what lookup answers, what fetching a payload answers, and what both mean for a good image.
pub mod Found
pub mod Fetched
pub mod Answers
pub mod Means
pub mod Ready
