pub mod ValuesDropLemmas
pub mod SystemsLemmas
pub mod FrameLemmas
