pub mod MarksPainted
pub mod RulesMarked
