pub mod Metrics
pub mod MetricsLaws
