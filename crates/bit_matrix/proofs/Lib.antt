pub mod MatrixLemmas
pub mod BlockLemmas
