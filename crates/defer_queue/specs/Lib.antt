pub mod Limbo
pub mod Reclaims
pub mod Longest
pub mod RetiredGroups
