pub mod Answers
pub mod Painting
