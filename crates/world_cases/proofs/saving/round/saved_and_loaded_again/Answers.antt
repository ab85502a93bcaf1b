use Rattle.std.proofs.Common.{ap, ◌∙◌}
use Rattle.std.specs.FinMap as map
use Rattle.std.specs.Ordering.{nat_cmp}
use Rattle.specs_entity.specs.Births.{Births}
use Rattle.specs_markers.specs.Simple.{Noting}
use Rattle.specs_saveload.proofs.CallerLemmas.{nobody-lives, same-again}
use Rattle.world_cases.proofs.saving.round.saved_and_loaded_again.Goals as goal

pub a_loaded_list_is_saved_again-requires-clause-nobody :
    goal.a_loaded_list_is_saved_again-requires-clause-nobody
a_loaded_list_is_saved_again-requires-clause-nobody g c = nobody-lives _ _ _ c.new-new_entities.ensures

pub a_loaded_list_is_saved_again-requires-clause-unknown :
    goal.a_loaded_list_is_saved_again-requires-clause-unknown
a_loaded_list_is_saved_again-requires-clause-unknown g c id =
    ap (λ (a : Noting). map.get a.noted id) c.new-allocator.ensures ∙ map.get-empty nat_cmp id

pub returns-clause-equal : goal.returns-clause-equal
returns-clause-equal g c =
    let none = ap (λ (b : Births). b.cache) c.new-new_entities.ensures in
    same-again _ _ _ _ _ c.in_ok-list.ensures.ok c.in_ok-copy.ensures.ok (c.in-Ok.ensures.back none) c.in_ok-again.ensures.ok
