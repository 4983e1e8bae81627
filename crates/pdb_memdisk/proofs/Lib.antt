pub mod Bytes
pub mod Pasts
pub mod Laid
pub mod Kept
pub mod Members
pub mod Now
