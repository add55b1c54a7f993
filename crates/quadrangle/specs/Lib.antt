pub mod Affine
pub mod Formulas
pub mod Projected
pub mod Laws
pub mod Projections
pub mod Pairs
