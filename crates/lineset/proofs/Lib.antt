pub mod Operations
pub mod Packed
pub mod Search
pub mod Sets
pub mod Shown
