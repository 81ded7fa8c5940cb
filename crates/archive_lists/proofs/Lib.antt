pub mod After
pub mod Reading
pub mod Steps
pub mod Storing
pub mod Theorems
