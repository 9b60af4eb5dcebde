pub mod Indexes
pub mod Spans
pub mod Lists
