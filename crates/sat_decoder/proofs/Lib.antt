pub mod Firsts
pub mod Standing
