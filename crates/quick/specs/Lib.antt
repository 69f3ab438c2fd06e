-- Quick reading: of images that were accepted before, with no test of soundness. Search has one page, Answers what is answered for every image and every question;
-- what that means for a good image is said by lookup/specs/Means, and proofs/Same says that it is what lookup and payload answer.
pub mod Step
pub mod Search
pub mod Answers
pub mod Ready
