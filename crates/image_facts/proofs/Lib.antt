mod Grouped
mod Headers
mod Lines
mod Named
