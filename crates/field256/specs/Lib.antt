pub mod Powers
pub mod Tables
