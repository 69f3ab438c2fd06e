-- Ledgers as the factory's scanner sends them.
pub mod Wire
pub mod Compare
pub mod Write
pub mod Laid
