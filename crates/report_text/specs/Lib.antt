pub mod Parts
pub mod Lines
pub mod Unix
pub mod Json
pub mod Report
pub mod Examples
