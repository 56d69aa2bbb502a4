-- What is promised.
pub mod Checked
-- What only code and proofs use.
pub mod Steps
pub mod Viewed
