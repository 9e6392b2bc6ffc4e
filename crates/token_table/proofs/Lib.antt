pub mod KindLaws
pub mod AltLaws
pub mod WithinLaws
pub mod ContentLaws
pub mod FindLaws
pub mod WordLaws
