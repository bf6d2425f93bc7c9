pub mod Filling
pub mod Rewriting
pub mod Steps
pub mod Written
