pub mod Merged
pub mod Grouping
