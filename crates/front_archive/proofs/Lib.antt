pub mod Bests
pub mod Marked
pub mod Moved
pub mod Offering
pub mod Places
