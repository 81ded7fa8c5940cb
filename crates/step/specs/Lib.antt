pub mod Checked
pub mod Plain
