pub mod BundledLemmas
pub mod OneLemmas
pub mod SideLemmas
pub mod ThreeLemmas
