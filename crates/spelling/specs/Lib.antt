-- What is counted on a page by itself, and what the count asks of an image and its ledger; dealing/specs/Spelling.antt has the count itself.
pub mod Count
