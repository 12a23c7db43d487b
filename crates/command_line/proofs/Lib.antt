mod FirstValue
mod Arguments
mod Ranges
mod Simple
mod TakenLemmas
