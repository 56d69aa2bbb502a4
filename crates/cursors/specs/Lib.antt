-- What is promised.
pub mod Cursor
