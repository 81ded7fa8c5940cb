pub mod Differences
pub mod Pixels
