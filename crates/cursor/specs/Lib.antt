-- Read from the top: what the cursor answers, and what that means for a good image.
pub mod Shown
pub mod Stepped
pub mod Answers
pub mod Told
pub mod Means
