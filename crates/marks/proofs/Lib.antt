pub mod MarkLaws
pub mod MetLaws
