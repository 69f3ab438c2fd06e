-- The name of the super-journal at the end of a rollback journal.
pub mod Name
