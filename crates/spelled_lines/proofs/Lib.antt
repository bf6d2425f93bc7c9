pub mod FirstPiece
pub mod Saying
pub mod Spelled
pub mod Ended
pub mod Joining
pub mod Over
pub mod Decimals
