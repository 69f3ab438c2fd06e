-- The rules that something may break, by number, and what is printed of them.
pub mod Rule
pub mod Text
