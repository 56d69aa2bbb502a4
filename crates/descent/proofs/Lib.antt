pub mod ThreadsBegun
pub mod ThreadsFollowed
pub mod RulesLooked
pub mod RuleDone
pub mod WalkTurned
pub mod WalkRested
