-- What is known of a report.
pub mod Reports
