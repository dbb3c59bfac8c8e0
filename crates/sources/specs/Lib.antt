pub mod FirstAt
pub mod FootStarts
