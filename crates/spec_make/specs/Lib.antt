pub mod Streams
pub mod Mesh
pub mod Made
