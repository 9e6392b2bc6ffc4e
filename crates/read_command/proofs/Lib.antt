pub mod TallyLaws
pub mod TurnLaws
pub mod CommandLaws
