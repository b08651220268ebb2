pub mod Planned
pub mod Shorts
pub mod NoHash
pub mod Unnested
pub mod Going
pub mod Duties
pub mod Shelved
