pub mod LiteralsStacked
pub mod Grounds
pub mod LiteralsTold
pub mod Least
pub mod FactsHeldOut
