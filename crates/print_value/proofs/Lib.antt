pub mod BeginLaws
pub mod StandLaws
pub mod UnitsLaws
pub mod EndLaws
pub mod ShortLaws
pub mod ElementLaws
pub mod TailLaws
pub mod ValueLaws
