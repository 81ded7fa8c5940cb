mod Calls
pub mod Known
mod Steps
