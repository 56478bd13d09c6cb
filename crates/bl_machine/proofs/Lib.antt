pub mod ActivityLemmas
pub mod CounterLemmas
pub mod Laying
pub mod Making
pub mod OrderLemmas
pub mod SlotLemmas
