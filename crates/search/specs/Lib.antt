-- What is promised.
pub mod Outcome
