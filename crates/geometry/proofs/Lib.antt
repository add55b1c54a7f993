pub mod Dual
pub mod Derived
pub mod Sides
pub mod Laid
pub mod Pinned
pub mod Only
pub mod Limits
