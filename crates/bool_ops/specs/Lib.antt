pub mod Results
pub mod Closing
pub mod Filing
pub mod Joined
pub mod Partnered
pub mod Paths
