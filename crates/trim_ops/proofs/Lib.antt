pub mod Marked
pub mod UsefulSteps
pub mod Bridge
pub mod Indexing
pub mod Views
