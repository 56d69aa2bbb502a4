-- What is promised.
pub mod Judged
-- What only code and proofs use.
pub mod JudgedOf
