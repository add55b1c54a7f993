pub mod Plane
pub mod Formulas
pub mod Laws
