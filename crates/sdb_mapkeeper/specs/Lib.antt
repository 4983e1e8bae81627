pub mod Holding
pub mod Uncrowded
pub mod MapKeeping
pub mod inner
