-- The frame index: the chains of frames, and the search along one.
pub mod FrameChainsOfPages
pub mod SearchAlongChain
