pub mod Blocks
pub mod Sealing
