pub mod Trials
pub mod ProgressCases
pub mod HistoryCases
pub mod Runs
