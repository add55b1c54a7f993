pub mod Machine
pub mod Bounds
pub mod Correction
pub mod Distance
