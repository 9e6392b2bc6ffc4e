pub mod Cases
pub mod Lists
pub mod Ranges
pub mod Over
pub mod Keys
pub mod Table
