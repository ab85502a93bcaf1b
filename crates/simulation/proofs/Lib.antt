pub mod ValueLemmas
pub mod ValuesDropLemmas
pub mod ReapingLemmas
pub mod FrameLemmas
pub mod MergeLemmas
pub mod SetupLemmas
pub mod ColonyLemmas
pub mod CrossingLemmas
