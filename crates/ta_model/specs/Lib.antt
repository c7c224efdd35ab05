pub mod Listing
pub mod Tuples
pub mod Classes
pub mod Restriction
pub mod Pairing
pub mod Macrostates
pub mod UpGroups
pub mod DownGroups
