pub mod GroundsTold
pub mod GroundsAsked
