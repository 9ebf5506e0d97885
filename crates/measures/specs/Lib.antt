pub mod Sizes
pub mod Identifiers
pub mod Categories
pub mod Bodies
pub mod Counted
