use Rattle.std.proofs.Common.{refl, ap, ◌∙◌, Some, None, [], ◌∷◌}
use Rattle.specs_join.specs.Joins.{join_list}
use Rattle.specs_world.proofs.CallerLemmas.{joined-edits, killed, none-deleted, none-gone, seen-parts}
use Rattle.world_cases.proofs.lazy.building.three_built.Goals as goal

pub returns-in-Some : goal.returns-in-Some
returns-in-Some g c =
    let one = c.in_ok-build.ensures _ _ _ c.in_ok-world.ensures.0 c.in_ok-world.ensures.1 in
    let two = c.in_ok-second.ensures _ _ _ one.1 one.2 in
    let three = c.in_ok-build-2.ensures _ _ _ two.1 two.2 in
    let left = killed two.0 c.in_ok-kill.ensures _ _ _ three.1 refl three.2 in
    let end = c.in_ok-settle.ensures _ _ _ left.0 refl left.1 in
    c.in_ok-list_of-in-Some.ensures ∙ (ap join_list (seen-parts _ (λ _. refl) (none-gone _ (none-deleted 1) end.1) c.in-Some.ensures)
    ∙ joined-edits ((1, None) ∷ (2, Some (record { 0 = 3 })) ∷ (1, Some (record { 0 = 2 })) ∷ (0, Some (record { 0 = 1 })) ∷ []) 3 refl)
