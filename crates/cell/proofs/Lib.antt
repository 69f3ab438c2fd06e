-- Laws of the payload split, worked examples, laws of a cell and of the bytes that give it.
pub mod SplitLaws
pub mod Examples
pub mod CellParts
mod CellWays
pub mod CellLaws
pub mod CellLocal
pub mod CellSpelled
