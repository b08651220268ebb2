pub mod Puts
pub mod Children
pub mod Comments
pub mod Turns
pub mod Pieces
