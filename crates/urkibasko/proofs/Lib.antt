-- Laws of the answers.
pub mod Bounds
pub mod RefusalLaws
pub mod ImageLaws
pub mod BuildLaws
