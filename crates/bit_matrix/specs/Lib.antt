pub mod Matrices
pub mod Blocks
