pub mod Refusing
pub mod Decoding
pub mod Searching
pub mod Commands
pub mod Run
