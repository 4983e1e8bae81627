pub mod Names
pub mod Placing
pub mod Laying
pub mod Sizes
pub mod Storing
pub mod Keeping
