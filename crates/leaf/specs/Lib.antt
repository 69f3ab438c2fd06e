-- A leaf's cell that was taken: with no overflow chain, or whole on its page.
pub mod Whole
pub mod Parts
