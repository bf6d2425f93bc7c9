pub mod Encoding
pub mod Rising
pub mod Block
