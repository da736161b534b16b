pub mod MetricsLaws
