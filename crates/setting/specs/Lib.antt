-- A row set to a record of any length that fits: its leaf page laid anew.
pub mod Relaid
pub mod Laying
pub mod Answers
