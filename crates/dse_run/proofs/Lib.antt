pub mod Searched
pub mod Found
pub mod Answering
pub mod Keeping
