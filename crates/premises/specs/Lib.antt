-- What only code and proofs use.
pub mod Premises
pub mod Filling
pub mod Plain
pub mod Waking
