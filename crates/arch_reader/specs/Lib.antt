pub mod Words
pub mod Numbers
pub mod Shapes
pub mod Seen
pub mod Tests
pub mod Formed
pub mod Arch
pub mod Taking
