pub mod Scan
pub mod Bits
pub mod Horner
pub mod Division
pub mod Inverses
pub mod Binary
pub mod Modular
pub mod Lawful
