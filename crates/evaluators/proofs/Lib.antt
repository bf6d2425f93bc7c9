pub mod Greatest
pub mod Finding
pub mod Walking
pub mod Marking
pub mod Deepening
pub mod Timing
pub mod Adding
pub mod Choosing
