pub mod Vlq
pub mod Written
pub mod Decode
pub mod Running
pub mod Answers
pub mod Lines
pub mod Laws
pub mod Examples
