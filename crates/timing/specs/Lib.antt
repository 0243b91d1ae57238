pub mod Timing
pub mod Answers
