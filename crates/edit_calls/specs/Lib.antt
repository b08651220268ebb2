pub mod Plans
pub mod Answers
pub mod Checks
pub mod Spots
pub mod Examples
