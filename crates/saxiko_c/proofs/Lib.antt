pub mod HandleSteps
pub mod Forms
pub mod HandleSends
pub mod Pieces
pub mod Options
