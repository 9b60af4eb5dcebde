pub mod Report
pub mod Wrong
pub mod Index
