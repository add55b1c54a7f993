pub mod Bch
pub mod Columns
pub mod Words
pub mod Two
pub mod Table
pub mod Sums
pub mod Distance
