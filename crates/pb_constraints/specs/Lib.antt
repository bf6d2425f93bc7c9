pub mod SignedSums
pub mod NormalForm
pub mod Groups
pub mod Sets
pub mod Adding
