pub mod ScanLaws
pub mod EndsLaws
pub mod LeafLaws
