pub mod Fib
pub mod Replay
