pub mod Joint
pub mod Trees
pub mod Text
pub mod Checked
pub mod Telling
pub mod Preceding
pub mod Dividing
