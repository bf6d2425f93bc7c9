pub mod Proving
pub mod Writing
