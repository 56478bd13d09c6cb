pub mod EarlierLemmas
pub mod InstanceLemmas
