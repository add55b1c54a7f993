pub mod Search
pub mod Flips
pub mod Decoder
pub mod Coefficients
