pub mod TreeBound
pub mod BoundLaws
