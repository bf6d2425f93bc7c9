pub mod ColumnEdits
pub mod OneGroup
pub mod Rows
pub mod WeightedSums
