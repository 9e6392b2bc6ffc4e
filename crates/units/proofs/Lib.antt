pub mod NumeralLaws
pub mod WordLaws
pub mod FitLaws
pub mod OtherLaws
pub mod DecimalLaws
pub mod AllLaws
