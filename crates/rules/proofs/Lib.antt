pub mod Sets
pub mod Steps
pub mod Laws
pub mod Blocks
pub mod Types
pub mod Formed
pub mod Seen
pub mod Fit
pub mod Scan
pub mod Numbers
mod Lists
pub mod Judging
pub mod Blocking
pub mod Checked
pub mod InScope
pub mod Before
pub mod Walk
pub mod Stacks
