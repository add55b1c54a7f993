mod Steps
mod Shift
mod Roots
mod Shedding
mod Adding
mod Correcting
mod Folds
