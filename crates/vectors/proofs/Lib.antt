pub mod AdlerLaws
