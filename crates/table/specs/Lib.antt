pub mod Faults
pub mod Types
pub mod Records
pub mod Program
pub mod Reading
pub mod Shown
