pub mod ProvedTable
