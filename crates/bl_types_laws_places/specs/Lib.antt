pub mod Agree
pub mod Judgements
pub mod Laws
