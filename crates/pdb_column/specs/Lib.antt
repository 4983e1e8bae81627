pub mod Maps
pub mod Holding
pub mod Damages
pub mod Answers
pub mod Storing
pub mod inner
