pub mod ReadLaws
