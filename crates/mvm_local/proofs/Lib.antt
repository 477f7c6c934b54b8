pub mod Framing
pub mod CodeBytes
pub mod Shapes
pub mod Decodings
