pub mod AskedLaws
pub mod LettersLaws
pub mod NumbersExamples
pub mod NumbersLaws
pub mod OneArgument
pub mod OwnLetters
