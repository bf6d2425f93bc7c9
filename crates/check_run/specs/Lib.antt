pub mod Fronts
pub mod Texts
pub mod Judging
pub mod Checking
pub mod Calls
pub mod Taking
