pub mod PagesLaws
pub mod LockLaws
pub mod BitLaws
