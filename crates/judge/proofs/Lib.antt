pub mod LeastTested
pub mod JudgeAnswers
pub mod Meaning
