pub mod Model
pub mod Sides
pub mod Words
pub mod Rounds
pub mod Checks
pub mod Calls
