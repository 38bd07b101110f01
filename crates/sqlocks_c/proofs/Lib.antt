pub mod HotFronts
