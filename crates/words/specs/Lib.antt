-- What is promised.
pub mod Word
