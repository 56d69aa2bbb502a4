-- What only code and proofs use.
pub mod Guessing
pub mod Bounds
pub mod Compared
pub mod First
pub mod Descended
pub mod Props
