pub mod Items
pub mod Blocks
pub mod Laid
pub mod Stores
pub mod Chains
pub mod Fill
pub mod Allocations
