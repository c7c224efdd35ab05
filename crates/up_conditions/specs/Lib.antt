pub mod Listed
pub mod Exchanging
pub mod Stepping
pub mod Covering
pub mod Choosing
pub mod Trailing
