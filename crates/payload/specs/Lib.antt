-- What copying a payload asks, and what it copies.
pub mod Copy
