pub mod PathLemmas
pub mod FaultLemmas
