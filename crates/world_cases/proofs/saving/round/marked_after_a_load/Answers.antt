use Rattle.std.proofs.Common.{ap, subst, sym, ◌∙◌}
use Rattle.std.specs.FinMap as map
use Rattle.std.specs.Ordering.{nat_cmp}
use Rattle.specs_layouts.specs.Dense.{dense_part}
use Rattle.specs_saveload.specs.Known.{known_of}
use Rattle.specs_markers.specs.Simple.{IsBelowNext, Noting}
use Rattle.specs_saveload.proofs.CallerLemmas.{below-then, new-differs, nobody-lives, of-told}
use Rattle.world_cases.proofs.saving.round.marked_after_a_load.Goals as goal

pub a_loaded_list_is_saved_again-requires-clause-nobody :
    goal.a_loaded_list_is_saved_again-requires-clause-nobody
a_loaded_list_is_saved_again-requires-clause-nobody g c = nobody-lives _ _ _ c.new-entities.ensures

pub a_loaded_list_is_saved_again-requires-clause-unknown :
    goal.a_loaded_list_is_saved_again-requires-clause-unknown
a_loaded_list_is_saved_again-requires-clause-unknown g c id =
    ap (λ (a : Noting). map.get a.noted id) c.new-allocator.ensures ∙ map.get-empty nat_cmp id

pub mark_one-requires : goal.mark_one-requires
mark_one-requires g c =
    below-then _ _ c.a_new_id_is_above_all_that_are_noted.ensures.gift c.a_loaded_list_is_saved_again.ensures.given
    (subst IsBelowNext (sym c.new-allocator.ensures) c.a_new_id_is_above_all_that_are_noted.ensures.none)

pub returns : goal.returns
returns g c =
    of-told c.mark_one.result _ _
    (λ id new entry among.
    let one = c.in-Ok.ensures.image.each entry among in
    new-differs dense_part (known_of c.a_loaded_list_is_saved_again.new.entities c.a_loaded_list_is_saved_again.new.allocator c.a_loaded_list_is_saved_again.new.markers) entry.marker id one.0 one.1.bears new)
    c.mark_one.ensures
