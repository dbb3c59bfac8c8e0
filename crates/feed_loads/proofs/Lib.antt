pub mod Carried
mod Learning
