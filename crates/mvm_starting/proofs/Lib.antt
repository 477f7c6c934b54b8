mod FramesEntered
mod Supers
pub mod Taking
pub mod Beginning
