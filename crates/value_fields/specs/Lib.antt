pub mod Measure
pub mod Writes
