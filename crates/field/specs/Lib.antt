pub mod Model
pub mod Polynomials
pub mod Defined
pub mod Laws
pub mod Sums
pub mod Made
