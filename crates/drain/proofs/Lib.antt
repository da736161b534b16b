pub mod DrainLaws
