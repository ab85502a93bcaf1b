pub mod TextLemmas
pub mod DrawnLemmas
