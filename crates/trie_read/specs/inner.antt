pub mod Descent
pub mod Following
pub mod Parts
