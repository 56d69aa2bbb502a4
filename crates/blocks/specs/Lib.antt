-- What only code and proofs use.
pub mod Order
pub mod Settling
pub mod Find
