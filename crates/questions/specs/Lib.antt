-- What is promised.
pub mod Questions
pub mod Answer
-- What only code and proofs use.
pub mod Named
pub mod Parts
pub mod Put
