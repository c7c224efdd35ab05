pub mod Between
pub mod Choosing
pub mod Covering
pub mod Filing
pub mod Refuting
