-- What is promised.
pub mod Steps
-- What only code and proofs use.
pub mod Room
pub mod Deriving
