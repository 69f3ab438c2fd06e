-- The walk through a tree, page by page and cell by cell.
pub mod Found
pub mod Spots
pub mod Turns
pub mod Leaves
