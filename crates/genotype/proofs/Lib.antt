pub mod Placing
pub mod Stating
pub mod Going
pub mod Spelling
pub mod Indexed
pub mod Firsts
pub mod Written
pub mod Filling
