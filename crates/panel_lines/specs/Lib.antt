-- What is promised.
pub mod Text
