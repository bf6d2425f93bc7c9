pub mod AtMost
pub mod Best
pub mod Members
pub mod Offers
