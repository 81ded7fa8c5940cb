pub mod Dirty
pub mod Good
pub mod Refusals
pub mod Registers
pub mod Timing
