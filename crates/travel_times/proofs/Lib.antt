mod Digits
mod FallingLemmas
mod SameFields
mod Tallies
mod Waits
