pub mod OneMore
pub mod Below
pub mod Counted
pub mod Placed
pub mod Grouped
pub mod Apart
pub mod Ordered
