pub mod Writer
pub mod Workers
pub mod Threads
pub mod Storm
