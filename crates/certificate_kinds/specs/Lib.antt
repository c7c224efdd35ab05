pub mod Fitting
pub mod Certificates
pub mod Answers
