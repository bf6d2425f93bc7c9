pub mod Fronts
pub mod Proofs
pub mod Faults
pub mod Judging
pub mod Laws
