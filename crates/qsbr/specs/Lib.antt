pub mod Counters
pub mod Laws
pub mod Intervals
