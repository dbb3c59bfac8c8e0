mod Counted
mod Found
mod Groups
mod Labelled
mod Marks
mod Named
