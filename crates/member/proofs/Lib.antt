pub mod ElementLaws
pub mod SeekLaws
pub mod TermLaws
pub mod GivenLaws
pub mod AnswerLaws
