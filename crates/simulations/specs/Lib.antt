pub mod Relations
pub mod Clearing
pub mod DownCases
pub mod UpCases
