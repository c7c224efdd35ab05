pub mod Places
pub mod Within
pub mod Members
pub mod Order
pub mod DownEntries
