-- What is promised.
pub mod Draws
pub mod Load
pub mod Outcome
-- What only code and proofs use.
pub mod Drawing
