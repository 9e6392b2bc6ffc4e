pub mod Elements
pub mod Judging
