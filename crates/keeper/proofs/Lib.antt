pub mod SpotLaws
pub mod KeyLaws
