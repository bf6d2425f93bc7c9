pub mod Asked
pub mod Places
pub mod Explored
pub mod Fit
pub mod Tags
pub mod Wholes
