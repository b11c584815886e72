pub mod LoopRules
