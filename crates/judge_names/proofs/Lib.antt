pub mod NameLaws
pub mod StandLaws
