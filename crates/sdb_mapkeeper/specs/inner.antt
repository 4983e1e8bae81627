-- What clauses of private functions and ghost facts cite; nothing outside the crate does.
pub mod Places
pub mod Applying
pub mod Later
