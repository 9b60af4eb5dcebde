pub mod Widths
pub mod Network
pub mod Texts
