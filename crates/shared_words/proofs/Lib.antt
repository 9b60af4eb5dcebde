pub mod WordPlaces
pub mod WriterRule
pub mod WorkerRule
pub mod WorkerSteps
pub mod Deeds
pub mod Together
