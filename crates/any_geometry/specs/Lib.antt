pub mod Kinds
pub mod Lawful
