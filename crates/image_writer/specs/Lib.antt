pub mod Writable
pub mod Header
pub mod Packing
