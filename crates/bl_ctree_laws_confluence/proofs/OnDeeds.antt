pub mod Accepted
pub mod Activities
pub mod Aliases
pub mod Homes
pub mod Nesting
pub mod Origins
pub mod Plans
