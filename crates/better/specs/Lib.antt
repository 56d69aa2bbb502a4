-- What is promised.
pub mod Outcome
-- What only code and proofs use.
pub mod Counted
