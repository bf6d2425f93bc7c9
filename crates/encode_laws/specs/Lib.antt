pub mod Exactness
pub mod ModelBits
