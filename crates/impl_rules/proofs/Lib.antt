pub mod BytesLemmas
pub mod Searches
pub mod Receivers
pub mod Tests
pub mod Reaching
pub mod Adding
pub mod Order
