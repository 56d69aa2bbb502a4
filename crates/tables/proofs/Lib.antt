pub mod ProgramHeld
pub mod EmptyHeld
pub mod PartsHeld
pub mod Spans
pub mod RanksHeld
