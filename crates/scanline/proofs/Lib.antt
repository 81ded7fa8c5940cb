pub mod Changes
pub mod Pixels
pub mod Pointers
pub mod Touches
