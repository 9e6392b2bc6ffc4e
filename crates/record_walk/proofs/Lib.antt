pub mod FrontLaws
pub mod TagLaws
pub mod WalkLaws
pub mod RunLaws
pub mod ValueLaws
pub mod PlaceLaws
