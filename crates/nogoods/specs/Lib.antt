-- What only code and proofs use.
pub mod Nogoods
