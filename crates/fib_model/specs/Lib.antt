pub mod State
pub mod Outcomes
pub mod Counters
pub mod Textbook
pub mod Laws
