pub mod SpanLaws
pub mod NextLaws
pub mod PlacesLaws
pub mod BlocksLaws
pub mod PlacesBytes
pub mod RecordBytes
pub mod HeadBytes
pub mod ToldLaws
