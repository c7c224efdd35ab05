pub mod Numbers
pub mod Settings
pub mod Commands
pub mod Parts
pub mod Reading
pub mod Requests
