-- Answers of the C interface: for each answer of the library the numbers and values that C sees. A field that does not apply is 0.
pub mod Varint
pub mod Record
pub mod Image
pub mod Rows
pub mod Recovery
pub mod Report
pub mod Built
pub mod Ledger
pub mod Summaries
pub mod Super
pub mod Appends
pub mod Set
