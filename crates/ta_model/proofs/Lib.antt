pub mod StillListed
pub mod Interning
pub mod Restricted
