pub mod Down
pub mod Index
pub mod Moves
pub mod Pair
pub mod Steps
