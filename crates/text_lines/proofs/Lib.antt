pub mod Cutting
pub mod Readings
pub mod Digits
pub mod FormLaws
pub mod StrictLaws
mod WordLaws
pub mod ShortNumbers
