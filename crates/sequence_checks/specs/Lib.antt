pub mod Pullbacks
pub mod Sizes
pub mod Maps
pub mod Room
