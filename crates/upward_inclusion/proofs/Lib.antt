mod Counted
mod Canonical
mod Identity
pub mod Meaning
