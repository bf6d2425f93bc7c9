pub mod Refusals
pub mod Lowered
pub mod Weakened
