pub mod ListOrder
pub mod Keys
pub mod SweepWords
pub mod Laws
