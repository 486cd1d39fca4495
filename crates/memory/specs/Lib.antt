pub mod Calls
pub mod Images
pub mod Model
pub mod Sizes
pub mod Tables
pub mod Words
