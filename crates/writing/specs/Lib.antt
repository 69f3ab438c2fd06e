-- What a fresh file is written of: numbers, cells, pages, chains; and how rows and children are put on pages.
pub mod Cells
pub mod Pages
pub mod Rows
pub mod Groups
pub mod Layout
pub mod Dealt
pub mod Given
