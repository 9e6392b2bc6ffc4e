pub mod WritingLaws
pub mod PlaceLaws
pub mod BlockLaws
