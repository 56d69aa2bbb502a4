pub mod LowestReady
pub mod NextPoised
pub mod RulesFired
