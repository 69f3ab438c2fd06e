-- What the checker of ledgers made elsewhere answers, and what a yes means.
pub mod Check
pub mod Means
pub mod Checked
