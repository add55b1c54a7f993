pub mod Model
pub mod Incidence
pub mod Laws
pub mod Seats
pub mod Projection
pub mod Agreement
pub mod Limits
pub mod Layouts
