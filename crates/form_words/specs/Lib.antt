pub mod Commands
pub mod Line
pub mod Reads
pub mod Served
pub mod Table
