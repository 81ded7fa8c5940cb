pub mod Adding
pub mod PutDown
