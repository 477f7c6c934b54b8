pub mod RowsParts
pub mod Parts
pub mod Calls
pub mod Laid
pub mod ShuffleRows
pub mod Forms
