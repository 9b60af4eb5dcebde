pub mod Retirement
