-- How rows and children are put on pages, by what the code has.
pub mod Fill
