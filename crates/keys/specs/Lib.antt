-- The order of index keys.
pub mod Keys
