pub mod PartLaws
pub mod PositionLaws
pub mod ReduceLaws
pub mod LoopLaws
pub mod AnswerLaws
