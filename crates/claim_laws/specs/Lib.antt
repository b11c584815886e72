pub mod Pullbacks
