pub mod Numbers
pub mod Cut
pub mod Parts
pub mod Fits
