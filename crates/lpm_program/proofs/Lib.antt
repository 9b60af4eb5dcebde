pub mod Causes
pub mod RunEnds
