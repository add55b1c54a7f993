pub mod Codes
pub mod Ring
pub mod Ranges
pub mod Differences
pub mod Quotients
pub mod Slopes
