pub mod Invariant
pub mod OtherMemory
pub mod Refresh
pub mod Sentences
pub mod Theorem
pub mod Ticks
