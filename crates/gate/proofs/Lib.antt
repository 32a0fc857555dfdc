mod Lent
mod Sweeping
mod Tripping
mod Stepping
mod Entering
mod Playing
