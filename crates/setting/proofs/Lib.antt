pub mod Theorems
-- one cell, elsewhere; cells one below the other; a page laid so; a sound leaf laid anew; the image
pub mod Moved
pub mod Stack
pub mod LeafLaid
pub mod LeafRelaid
pub mod Keeps
pub mod Gone
-- the code
pub mod LayLaws
pub mod Ways
pub mod Quick
pub mod Wiped
pub mod Again
pub mod Examples
