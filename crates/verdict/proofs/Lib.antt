pub mod VerdictLaws
pub mod MeansLaws
