pub mod Ends
pub mod Keys
pub mod Indexing
pub mod Listing
pub mod Searching
mod Numbers
mod Grown
