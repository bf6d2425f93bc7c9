pub mod Hub
pub mod Written
pub mod Weights
pub mod Rising
pub mod Terms
pub mod Shapes
pub mod Formed
pub mod Known
