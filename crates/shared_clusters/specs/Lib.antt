pub mod Gap
pub mod Clusters
