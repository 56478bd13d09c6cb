pub mod Answers
pub mod Build
pub mod Built
pub mod Drive
pub mod inner
pub mod Laws
pub mod Link
pub mod Run
