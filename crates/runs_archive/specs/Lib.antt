pub mod Steward
