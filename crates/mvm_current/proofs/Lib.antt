pub mod Framing
pub mod KeyLaws
pub mod Entering
pub mod Growth
pub mod Fitting
pub mod Reading
pub mod Methods
pub mod Called
