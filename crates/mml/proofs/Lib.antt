pub mod PackLaws
pub mod PackDecides
