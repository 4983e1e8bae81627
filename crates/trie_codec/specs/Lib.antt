pub mod NodeParts
pub mod Parts
pub mod Places
pub mod Reading
pub mod Slices
pub mod SpelledChildren
pub mod inner
