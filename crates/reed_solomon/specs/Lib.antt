pub mod Words
pub mod Model
pub mod Meaning
pub mod Errors
