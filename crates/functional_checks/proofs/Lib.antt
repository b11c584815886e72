pub mod ColumnValues
pub mod GeneratorValues
pub mod ValuesAtGenerators
pub mod Columns
pub mod EndFunctionals
