mod Ending
mod Feeding
mod OnHearing
mod OnJudging
mod Streams
