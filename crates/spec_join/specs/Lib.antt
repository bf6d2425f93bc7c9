pub mod Joining
pub mod Tables
pub mod Quantities
pub mod Effects
pub mod Refusals
pub mod Reading
pub mod Fits
pub mod Stops
