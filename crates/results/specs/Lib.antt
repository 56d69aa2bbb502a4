-- What only code and proofs use.
pub mod Marks
pub mod Writable
