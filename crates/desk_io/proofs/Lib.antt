pub mod FilesLemmas
pub mod HeldLemmas
