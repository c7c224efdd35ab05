mod Alike
mod Rising
pub mod Splitting
pub mod Stepping
