-- What only code and proofs use.
pub mod Root
