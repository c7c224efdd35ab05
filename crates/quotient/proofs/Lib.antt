pub mod Lists
pub mod ClassSteps
pub mod Repeats
pub mod Merging
pub mod Useful
