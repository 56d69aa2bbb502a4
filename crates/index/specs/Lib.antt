-- What only code and proofs use.
pub mod Literal
pub mod Cells
pub mod Index
