pub mod Reduced
pub mod Plans
