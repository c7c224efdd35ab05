pub mod Marking
pub mod Usefulness
pub mod Trimmed
