pub mod Deciding
pub mod Said
pub mod Numbered
pub mod Headed
pub mod Written
pub mod Bounded
