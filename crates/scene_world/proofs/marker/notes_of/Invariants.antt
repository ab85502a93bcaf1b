use Rattle.std.proofs.Common.{◌≡◌, ℕ, None, nat_eq}
use Rattle.std.specs.HashMap as table
use Rattle.std.specs.Map.{update_all}
use Rattle.specs_join.specs.Joins.{both, living_entity}
use Rattle.specs_join.specs.Joining.{items_left}
use Rattle.scene_world.specs.Markers.{marker_in, marker_at}
use Rattle.specs_markers.specs.Noting.{marked_list, pairs_of}
use Rattle.scene_world.proofs.marker.notes_of.Given as goal

-- the notes so far, with those of the entities to come, are all
abbrev pub invariant-loop-entity : goal.invariant-loop-entity
invariant-loop-entity l =
    (q : ℕ) → update_all nat_eq (table.get nat_eq l.notes) (pairs_of (λ marker. marker) (items_left (λ values index. both (living_entity values.0.now index) (marker_in values.1.now index)) l.entity-iterator)) q
    ≡ update_all nat_eq (λ _. None) (pairs_of (λ marker. marker) (marked_list l.entities (marker_at l.storage))) q
