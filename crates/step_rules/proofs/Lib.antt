pub mod After
pub mod Answers
pub mod ByKind
pub mod Decoding
pub mod Good
pub mod Ports
pub mod ShortCuts
pub mod Told
