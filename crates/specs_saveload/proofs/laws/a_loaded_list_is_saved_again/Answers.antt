use Rattle.std.proofs.lemmas.Result.{on_ok_weaker}
use Rattle.specs_saveload.specs.declared.deserialize.LoadError.{LoadError}
use Rattle.specs_saveload.proofs.GiftLemmas.{load-given}
use Rattle.specs_saveload.proofs.ImageLemmas.{loaded-image, saved-again}
use Rattle.specs_saveload.proofs.laws.a_loaded_list_is_saved_again.Goals as goal

pub returns-clause-image : goal.returns-clause-image
returns-clause-image g c =
    on_ok_weaker c.deserialize-result.result
    (λ loads. loaded-image _ _ _ g.met.M.SavedMarker.by_id _ _ _ _ _ _ _ loads c.requires.nobody c.requires.unknown c.requires.apart c.requires.own)
    c.deserialize-result.ensures.ok

pub returns-clause-back : goal.returns-clause-back
returns-clause-back g c =
    on_ok_weaker c.deserialize-result.result
    (λ loads none. saved-again _ _ _ g.met.M.SavedMarker.by_id _ _ _ _ _ _ _ loads c.requires.nobody c.requires.unknown c.requires.apart c.requires.own _ g.met.S.DeserializeComponents.back c.the_living_are_below_the_limit.ensures none)
    c.deserialize-result.ensures.ok

pub returns-clause-given : goal.returns-clause-given
returns-clause-given g c = load-given _ _ _ _ _ _ _ _ _ c.deserialize-result.result (λ (refused : LoadError). refused.place) (λ (refused : LoadError). refused.error) c.deserialize-result.ensures.retrieves c.deserialize-result.ensures.leaves
