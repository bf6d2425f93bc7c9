pub mod ArchFiles
pub mod ShortFiles
pub mod Worlds
