-- A tree page by itself: its header, where it may stand, its cells, its soundness, and the refusal it gives.
pub mod Header
pub mod Place
pub mod Sound
pub mod Checked
pub mod Fault
pub mod Steps
