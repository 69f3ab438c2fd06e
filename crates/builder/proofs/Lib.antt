pub mod Clear
pub mod Refused
pub mod PlanLaws
pub mod ImageLaid
pub mod Answer
pub mod FreshFile
