-- What only code and proofs use.
pub mod Flags
pub mod Matrix
