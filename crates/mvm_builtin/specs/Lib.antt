pub mod Table
pub mod Rows
pub mod Classes
pub mod Order
pub mod Natives
pub mod Index
