pub mod Bytes
pub mod Least
pub mod Routes
pub mod Allocation
pub mod Broken
