-- What clauses of private functions cite; nothing outside the crate does.
pub mod Fields
pub mod HeadCells
pub mod Steps
pub mod Firsts
pub mod Parts
pub mod Loose
pub mod Many
