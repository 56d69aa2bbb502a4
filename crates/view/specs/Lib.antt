-- What is promised.
pub mod View
