pub mod Layout
pub mod Rule
pub mod Seats
pub mod Deeds
