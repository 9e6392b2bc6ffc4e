pub mod Begins
pub mod Joints
pub mod Values
