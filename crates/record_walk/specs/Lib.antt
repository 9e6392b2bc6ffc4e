pub mod Tags
pub mod Fields
pub mod Fronts
pub mod Runs
pub mod Spans
pub mod Values
