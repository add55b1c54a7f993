pub mod Orders
pub mod Lawful
