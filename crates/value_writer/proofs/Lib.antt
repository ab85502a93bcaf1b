pub mod VariantLemmas
