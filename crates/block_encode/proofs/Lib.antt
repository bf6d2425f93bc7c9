pub mod Adding
pub mod Forms
pub mod Meaning
pub mod Framing
pub mod Extending
pub mod Knowing
