pub mod First
pub mod Lists
pub mod NodeItems
pub mod Options
