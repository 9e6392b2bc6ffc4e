pub mod Along
pub mod Scanned
pub mod Filled
