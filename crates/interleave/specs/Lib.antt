pub mod Laws
pub mod Runs
pub mod View
pub mod World
pub mod WorldLaws
pub mod Scripts
pub mod Record
pub mod Machine
