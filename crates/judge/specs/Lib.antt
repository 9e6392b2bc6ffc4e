pub mod Blocks
pub mod Judged
