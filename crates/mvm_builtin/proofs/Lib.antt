pub mod Order
pub mod Found
pub mod Numbers
pub mod Halving
pub mod Indexed
pub mod Computed
pub mod Checked
