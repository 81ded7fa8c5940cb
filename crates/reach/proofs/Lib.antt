pub mod Chunks
pub mod Laws
