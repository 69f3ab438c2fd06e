-- Numbers as a file spells them: bytes at a place, big-endian numbers, two's complement, varints.
pub mod Bytes
pub mod Varint
