pub mod Along
pub mod Apart
pub mod ApartProgram
mod Bindings
pub mod Distinct
mod ExprDepth
mod ExprLeads
mod ExprMade
pub mod ExprRoots
mod Filled
mod Foreign
mod Fresh
mod ItemLeads
mod Listed
mod Made
mod Moves
mod Names
mod Only
mod Starts
pub mod StmtDepth
mod StmtLeads
mod Tests
pub mod WhatKeeps
