pub mod Code
pub mod Decode
pub mod Elimination
pub mod Promise
