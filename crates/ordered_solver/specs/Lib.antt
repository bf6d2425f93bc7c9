pub mod Solver
pub mod Answers
pub mod Marks
pub mod Trails
pub mod Engines
pub mod Lessons
