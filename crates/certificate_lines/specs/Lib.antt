pub mod Lines
pub mod Relations
pub mod Pairs
pub mod Telling
pub mod PairsRead
pub mod Budgets
