pub mod Listing
pub mod Reading
pub mod Sets
pub mod Each
