pub mod Load
pub mod FilledTable
pub mod Lookup
pub mod Explain
pub mod Apply
pub mod Report
pub mod Storm
pub mod Migrate
