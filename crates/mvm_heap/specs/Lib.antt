pub mod Digits
pub mod Objects
pub mod Sorts
pub mod Packed
pub mod Heap
pub mod Index
