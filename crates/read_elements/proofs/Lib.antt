pub mod ElementLaws
pub mod KeepLaws
pub mod WalkLaws
pub mod StandLaws
pub mod EachLaws
