mod Answers
mod Does
pub mod Plain
