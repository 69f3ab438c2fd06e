pub mod Pages
pub mod Laying
pub mod Bits
