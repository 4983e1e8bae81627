-- What functions inside this crate say of each other, and the proof of a law.
pub mod Steps
pub mod Laws
