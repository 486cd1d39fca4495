pub mod Calling
pub mod Turns
pub mod Committing
pub mod Starting
pub mod Touching
