pub mod Nodes
pub mod Reached
pub mod Marking
pub mod NodesText
pub mod Judged
pub mod Answers
pub mod Views
