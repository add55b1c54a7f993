pub mod Table
pub mod Reckoning
