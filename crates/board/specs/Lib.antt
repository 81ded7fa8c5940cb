pub mod Clock
pub mod Dirty
pub mod Ranges
pub mod Record
pub mod Registers
