pub mod Calls
pub mod Proved
