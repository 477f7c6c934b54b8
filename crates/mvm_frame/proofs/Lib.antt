pub mod Placing
pub mod Framed
pub mod Shuffling
pub mod FormLaws
pub mod FrameLaws
pub mod FramesAfter
