pub mod BetterAsked
pub mod Chosen
