pub mod Maps
pub mod Memory
