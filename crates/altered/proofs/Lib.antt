pub mod Theorems
-- files, with no bytes in them
pub mod Same
pub mod SameReads
pub mod SameEvents
pub mod SameVerdict
pub mod SameCells
-- bytes
pub mod SameHeader
pub mod SameMaps
pub mod Kept
pub mod Relations
pub mod Answers
pub mod KeptCells
pub mod Computing
pub mod Examples
