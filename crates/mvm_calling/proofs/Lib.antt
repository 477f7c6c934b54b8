pub mod Arguing
pub mod Known
pub mod Roomy
pub mod Selecting
pub mod InterfaceSelecting
pub mod SpecialSelecting
