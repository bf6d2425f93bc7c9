pub mod Words
pub mod Numbers
pub mod Headed
pub mod Bounds
