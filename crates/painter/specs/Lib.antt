pub mod Mappings
pub mod Spans
pub mod SpanLaws
pub mod Drawings
pub mod Columns
pub mod SpanRefusals
