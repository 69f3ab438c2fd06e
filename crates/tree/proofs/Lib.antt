pub mod Tests
pub mod Turns
pub mod Cells
pub mod Leaves
pub mod Payloads
pub mod Calm
