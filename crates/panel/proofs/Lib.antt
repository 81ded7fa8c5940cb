pub mod Table
pub mod Widening
