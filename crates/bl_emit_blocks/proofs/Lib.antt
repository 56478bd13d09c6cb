mod Ending
mod Same
mod Trees
mod Turns
