pub mod Encoding
pub mod Lasting
