pub mod BytesLaws
pub mod TurnLaws
pub mod MeasureLaws
pub mod WriteLaws
