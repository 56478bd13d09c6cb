mod Cells
mod Faults
mod Numbers
mod Shaped
mod States
mod Walks
