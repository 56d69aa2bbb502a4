pub mod WordBits
pub mod RowMarked
pub mod RowTaken
pub mod RowPicked
pub mod MatrixMarked
pub mod EmptyRows
pub mod RowJoined
