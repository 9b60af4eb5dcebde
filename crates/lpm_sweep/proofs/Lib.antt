pub mod Stacks
pub mod DeepBlocks
pub mod Sweeps
pub mod KeyOrder
pub mod NewGroup
