-- A cell of a tree page: how its payload is split, and where its fields stand.
pub mod Split
pub mod Cell
