pub mod ForgetLemmas
pub mod LooserLemmas
pub mod SetLemmas
pub mod StepLemmas
pub mod TestLemmas
