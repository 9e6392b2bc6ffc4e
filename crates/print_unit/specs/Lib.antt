pub mod Ways
pub mod Texts
pub mod Strings
pub mod Units
