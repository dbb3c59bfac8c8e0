mod Ridden
mod Listed
mod Order
mod Rows
mod Spans
