pub mod Forms
pub mod TableForms
pub mod Walks
