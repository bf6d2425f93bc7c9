pub mod Least
pub mod Kept
pub mod Unique
pub mod Refuting
pub mod Searching
pub mod Few
pub mod Ones
