pub mod Filled
pub mod Odometer
