-- Document 01's text form and report, and what the calls answer and leave. `Inner` holds what the private functions promise each other.
pub mod Bytes
pub mod Decimal
pub mod Line
pub mod Text
pub mod Reading
pub mod ReadCall
pub mod OneLine
pub mod ReportLine
pub mod Report
pub mod ReportCall
pub mod WriteCall
pub mod Inner
