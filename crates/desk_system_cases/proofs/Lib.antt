pub mod Runs
pub mod ProgressUses
pub mod HistoryUses
pub mod Uses
