mod Back
mod Reading
mod Tables
