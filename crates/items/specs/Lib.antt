-- What is promised.
pub mod Question
pub mod Answer
pub mod Item
pub mod Write
