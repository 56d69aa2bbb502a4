-- What only code and proofs use.
pub mod Lanes
pub mod Held
pub mod Fit
