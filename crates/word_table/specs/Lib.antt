pub mod Words
pub mod Index
pub mod Table
pub mod Numbered
