pub mod Groups
pub mod Counting
pub mod Fingerprint
