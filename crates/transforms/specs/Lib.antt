pub mod Fronts
pub mod Reads
pub mod Hex
pub mod Shipped
