pub mod LetterLaws
pub mod RunLaws
pub mod DigitLaws
