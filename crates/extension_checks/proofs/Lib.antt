pub mod AskedSpans
pub mod ReducedModulo
pub mod Lines
pub mod FollowValues
pub mod FollowBlocks
pub mod RowsDecided
