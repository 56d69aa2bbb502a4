-- What only code and proofs use.
pub mod Layout
pub mod Held
pub mod Ranking
