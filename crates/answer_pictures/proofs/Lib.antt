mod Cuts
mod Drawn
mod Joined
mod Spans
