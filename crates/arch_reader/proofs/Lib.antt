pub mod Declared
pub mod Misreading
pub mod Cutting
pub mod Testing
pub mod Naming
pub mod Kept
pub mod Places
pub mod Going
