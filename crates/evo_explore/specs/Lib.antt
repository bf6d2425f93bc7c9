pub mod Counts
pub mod Breeding
pub mod Run
pub mod Steps
pub mod Laws
pub mod Objectives
