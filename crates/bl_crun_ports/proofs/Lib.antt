pub mod KindLemmas
pub mod LayLemmas
pub mod PortLemmas
pub mod SpanLemmas
