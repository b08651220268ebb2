pub mod Edited
pub mod Open
pub mod Alone
pub mod Effect
pub mod Visit
pub mod Calls
pub mod Shelf
pub mod Examples
