pub mod Lines
pub mod Running
