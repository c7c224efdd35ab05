pub mod Fed
pub mod Fitting
pub mod Scan
pub mod Table
pub mod Rules
pub mod Store
pub mod Taking
pub mod Reading
