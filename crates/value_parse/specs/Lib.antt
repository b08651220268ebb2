pub mod Tree
pub mod Found
pub mod Row
pub mod Number
pub mod NumberLengths
pub mod Examples
