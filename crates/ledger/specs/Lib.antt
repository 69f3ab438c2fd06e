-- The ledgers and the numbers of a tree, as the run of events has them.
pub mod Ledger
