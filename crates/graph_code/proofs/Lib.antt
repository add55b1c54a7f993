pub mod SideLaws
pub mod Passing
pub mod Admission
pub mod HalfRounds
pub mod Keeping
