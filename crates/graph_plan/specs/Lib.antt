pub mod Graphs
pub mod Room
