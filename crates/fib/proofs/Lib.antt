pub mod Steps
pub mod Sound
pub mod Fours
pub mod Replays
pub mod InitialVersions
