-- What only code and proofs use.
pub mod Memory
pub mod Look
