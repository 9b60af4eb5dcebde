pub mod WriterStores
pub mod Good
pub mod Versions
pub mod Moments
pub mod Grace
pub mod Traces
pub mod Checks
pub mod Promises
