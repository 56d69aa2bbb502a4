pub mod SearchAsked
pub mod EarlyNumbers
pub mod RunUnder
pub mod Outcomes
pub mod SearchMeaning
pub mod Guesses
