pub mod Drawing
pub mod Pointers
