-- The payload of a cell, as the walk takes it: its chain, then its record.
pub mod Reading
pub mod Cells
