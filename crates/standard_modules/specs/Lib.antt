pub mod StandardModules
