pub mod Orders
pub mod Places
pub mod Steps
pub mod Turns
pub mod Ends
