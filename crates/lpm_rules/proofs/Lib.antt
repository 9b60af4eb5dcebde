pub mod Longest
pub mod Counts
pub mod Deep
pub mod Views
pub mod LengthMaps
pub mod NextRules
