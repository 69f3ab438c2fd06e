-- What is known of a ledger of steps while it is filled.
pub mod Known
