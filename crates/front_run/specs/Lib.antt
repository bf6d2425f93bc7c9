pub mod Fronting
pub mod Wanting
