-- A table of frames. Read in this order.
pub mod Filled
pub mod Table
pub mod Filling
