pub mod Accepting
pub mod Acceptor
pub mod Hosting
pub mod Logging
pub mod Reading
pub mod Running
pub mod Serving
pub mod Showing
