pub mod Decoder
pub mod Decoding
pub mod Models
