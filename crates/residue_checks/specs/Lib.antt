pub mod RingsModulo
pub mod Representatives
pub mod ZeroOrUnits
pub mod LocalRoom
