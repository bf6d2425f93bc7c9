pub mod Marked
pub mod Reached
pub mod Numbered
pub mod Kept
pub mod Going
pub mod Places
pub mod Found
pub mod RowKinds
