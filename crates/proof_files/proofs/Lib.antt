pub mod Refuting
pub mod Files
