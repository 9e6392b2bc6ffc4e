pub mod StandingLaws
pub mod SumLaws
