pub mod Answer
pub mod Extracted
pub mod Faults
pub mod Judged
pub mod Numbers
pub mod Questions
pub mod Reading
pub mod Texts
