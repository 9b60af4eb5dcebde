pub mod States
pub mod Progress
pub mod Trace
pub mod Laws
pub mod Writer
