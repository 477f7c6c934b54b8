pub mod NativeCalls
pub mod Calls
pub mod Found
pub mod Leaving
