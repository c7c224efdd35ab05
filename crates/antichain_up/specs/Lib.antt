pub mod Answers
pub mod ByState
pub mod Entries
pub mod Orders
pub mod SearchState
