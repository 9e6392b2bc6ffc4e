pub mod PieceLaws
pub mod PlaceLaws
pub mod PieceBytes
pub mod PlaceBytes
