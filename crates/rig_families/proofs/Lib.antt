pub mod LikeliestImages
pub mod PiecesPut
pub mod HeldFiles
