-- What the verdict answers, and what it leaves in the ledgers.
pub mod Verdict
pub mod Means
pub mod Judged
pub mod Answer
pub mod Judgement
