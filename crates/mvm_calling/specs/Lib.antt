pub mod KeptCalls
pub mod KeptVirtual
pub mod KeptInterface
pub mod KeptSpecial
