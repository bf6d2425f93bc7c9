pub mod After
pub mod Loading
pub mod Reading
pub mod Worlds
