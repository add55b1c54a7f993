pub mod Products
pub mod Fewer
pub mod Dual
pub mod Far
