pub mod Triples
pub mod Plane
pub mod Formulas
pub mod Laws
pub mod TriplesLemmas
pub mod Cross
pub mod Opposites
