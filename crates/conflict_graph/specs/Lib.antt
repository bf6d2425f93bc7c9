pub mod Clauses
pub mod Conditions
pub mod Derives
pub mod Learned
pub mod Learning
