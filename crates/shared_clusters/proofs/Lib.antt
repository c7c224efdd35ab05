pub mod Gaps
pub mod Groups
pub mod Rules
