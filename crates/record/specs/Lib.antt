-- Records: serial types, the columns of a record; the same as a statement; and what one pass over a record finds.
pub mod Serial
pub mod Record
pub mod Layout
pub mod Scan
