-- The worked runs of desks, as one table. Proved in proofs/Runs.antt.
-- Assumes nothing.
use Rattle.desk_system_cases.specs.Trials.{Story, LongStory, ManyManagers, RulesNeeded}
use Rattle.desk_system_cases.specs.HistoryCases.{Lived, HistoryNeeds}
use Rattle.desk_system_cases.specs.ProgressCases.{GuardCases, SpendCases}

-- A story, one with every other step, managers that do not agree, and for each rule a run that breaks it; a run of the
-- whole system, and what the one theorem needs; commands on the word of a reply, and stamps that are used up.
abbrev pub DeskRuns : Type 0
DeskRuns = Story × (LongStory × (ManyManagers × (RulesNeeded × (Lived × (HistoryNeeds × (GuardCases × SpendCases))))))
