pub mod CallerLemmas
pub mod CutLemmas
pub mod CutRows
pub mod DealLemmas
pub mod LineLemmas
pub mod ShareLemmas
pub mod ZipLemmas
