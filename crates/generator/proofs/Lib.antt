pub mod Sums
pub mod Quotients
pub mod LoadRead
pub mod RulesPlaced
pub mod LoadAnswers
