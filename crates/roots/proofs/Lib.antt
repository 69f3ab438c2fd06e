pub mod RootLaws
