pub mod After
pub mod Answers
pub mod Decoding
pub mod Kinds
pub mod Ports
pub mod ShortCuts
