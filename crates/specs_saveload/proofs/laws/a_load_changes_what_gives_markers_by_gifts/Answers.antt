use Rattle.specs_saveload.specs.declared.deserialize.LoadError.{LoadError}
use Rattle.specs_saveload.proofs.GiftLemmas.{load-given}
use Rattle.specs_saveload.proofs.laws.a_load_changes_what_gives_markers_by_gifts.Goals as goal

pub returns : goal.returns
returns g c = load-given _ _ _ _ _ _ _ _ _ c.deserialize.result (λ (refused : LoadError). refused.place) (λ (refused : LoadError). refused.error) c.deserialize.ensures.retrieves c.deserialize.ensures.leaves
