pub mod RuleLooked
pub mod StackCells
pub mod ComponentClosed
pub mod FactOpened
pub mod Reaching
pub mod ComponentWalk
pub mod WalkClosed
