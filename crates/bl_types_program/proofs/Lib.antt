mod Causes
mod Made
