-- What only code and proofs use.
pub mod Open
pub mod Look
