pub mod Shape
pub mod Fields
pub mod Tree
pub mod Faults
-- what is read off images made by sqlite3
pub mod RealImages
pub mod Examples
pub mod Records
