pub mod IntegerSums
pub mod Grouping
pub mod Forms
pub mod Meaning
pub mod Unique
pub mod AtLeast
pub mod Variables
pub mod Adding
