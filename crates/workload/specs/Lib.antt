pub mod Source
pub mod TextSink
