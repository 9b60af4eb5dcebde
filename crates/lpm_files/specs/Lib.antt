pub mod Output
pub mod Inputs
pub mod Status
pub mod Later
