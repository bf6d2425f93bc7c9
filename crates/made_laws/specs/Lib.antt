pub mod Reading
pub mod Unbroken
pub mod Joined
