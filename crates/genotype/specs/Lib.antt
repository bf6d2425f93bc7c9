pub mod Genes
pub mod Order
pub mod Placing
pub mod Statements
pub mod Spelling
pub mod Draws
