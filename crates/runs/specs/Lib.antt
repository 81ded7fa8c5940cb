pub mod Events
pub mod Reference
pub mod Ticks
