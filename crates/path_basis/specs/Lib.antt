pub mod Inserting
pub mod Measure
pub mod Completing
pub mod Tails
pub mod Sifting
pub mod Used
pub mod Pruning
pub mod Results
