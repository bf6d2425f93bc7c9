pub mod Tools
pub mod Words
pub mod Saying
pub mod Exploring
pub mod Wanting
