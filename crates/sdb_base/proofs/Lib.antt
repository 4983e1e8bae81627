pub mod Halves
pub mod Orders
pub mod TooLong
pub mod Commits
