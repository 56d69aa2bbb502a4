pub mod StepLines
pub mod TextShown
pub mod AscendingOrder
pub mod Lengths
pub mod RunLines
pub mod RefusalText
pub mod Examples
