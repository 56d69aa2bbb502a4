pub mod KeptLines
pub mod GroundsLines
pub mod GroundsTold
pub mod WordReadBack
pub mod RefusalTold
pub mod Examples
