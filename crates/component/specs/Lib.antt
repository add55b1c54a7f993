pub mod Model
pub mod Decoding
pub mod Checks
pub mod Calls
