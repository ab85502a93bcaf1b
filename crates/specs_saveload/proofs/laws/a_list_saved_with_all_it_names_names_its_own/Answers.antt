use Rattle.std.proofs.lemmas.Result.{IfOk-weaker}
use Rattle.specs_saveload.proofs.ReachLemmas.{reached-apart, reached-own}
use Rattle.specs_saveload.proofs.laws.a_list_saved_with_all_it_names_names_its_own.Goals as goal

pub returns-clause-apart : goal.returns-clause-apart
returns-clause-apart g c =
    IfOk-weaker c.serialize_recursive.result _ _
    (λ list is differ. reached-apart _ _ _ _ _ _ _ g.S.DeserializeComponents.markers_of g.met.S.DeserializeComponents.stands _ c.the_living_are_below_the_limit.ensures _ _ list.items is differ)
    c.serialize_recursive.ensures.ok

pub returns-clause-own : goal.returns-clause-own
returns-clause-own g c =
    IfOk-weaker c.serialize_recursive.result _ _
    (λ list is. reached-own _ _ _ _ _ _ _ g.S.DeserializeComponents.markers_of g.met.S.DeserializeComponents.stands _ c.the_living_are_below_the_limit.ensures _ _ list.items is)
    c.serialize_recursive.ensures.ok
