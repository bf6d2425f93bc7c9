pub mod Readings
pub mod Faults
pub mod Lines
pub mod Taking
pub mod Contents
pub mod Verdicts
