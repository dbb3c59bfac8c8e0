mod Least
mod LinesIfSome
mod Printed
mod Sought
mod Stops
mod Summed
