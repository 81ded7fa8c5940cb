pub mod Answers
pub mod Format
pub mod Rows
pub mod Sound
