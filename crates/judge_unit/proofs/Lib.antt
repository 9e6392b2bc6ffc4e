pub mod StandLaws
pub mod UnitLaws
pub mod UnitBytes
