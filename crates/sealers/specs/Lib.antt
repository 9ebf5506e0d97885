pub mod Sizes
pub mod Rules
pub mod Bench
pub mod Runs
pub mod Deck
pub mod Kept
