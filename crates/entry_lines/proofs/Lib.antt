pub mod Judging
pub mod Printed
pub mod ReadBack
pub mod Inverse
