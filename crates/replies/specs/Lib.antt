-- What is promised.
pub mod Reply
