-- The commit of a record that is set, and the number along a life; what tells a row; a file made by sqlite3.
pub mod Theorems
pub mod Told
pub mod Examples
