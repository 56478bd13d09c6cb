mod Lengths
mod StateLaws
