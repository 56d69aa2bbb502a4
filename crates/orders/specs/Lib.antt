-- What only code and proofs use.
pub mod Groups
pub mod Keys
