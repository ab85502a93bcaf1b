-- What proofs of the crates above cite, and nothing else of these lemmas.
pub use Rattle.specs_layouts.proofs.DropSteps.{room-for-one}
pub use Rattle.specs_layouts.proofs.ToCome.{walk-come}
pub use Rattle.specs_layouts.proofs.ShowsLemmas.{more-more, shows-refl, shows-same, shows-taken, shows-trans, shows-written}
pub use Rattle.specs_layouts.proofs.TellsLemmas.{caught-reads, tells-alike, tells-first, tells-more}
