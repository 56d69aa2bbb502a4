-- What is promised.
pub mod Text
-- What only code and proofs use.
pub mod Tabled
