pub mod Rows
pub mod Adding
pub mod Writing
