use Rattle.std.proofs.Common.{◌≡◌, ℕ, None, List}
use Rattle.std.specs.HashMap as table
use Rattle.std.specs.Map.{update_all}
use Rattle.std.specs.Str.{bytes_eq}
use Rattle.specs_join.specs.Joins.{both, living_entity}
use Rattle.specs_join.specs.Joining.{items_left}
use Rattle.specs_layouts.specs.Slots.{slot_at, slots_of}
use Rattle.specs_markers.specs.Noting.{marked_list, pairs_of}
use Rattle.specs_markers.proofs.uuids.notes_of.Given as goal

-- the notes so far, with those of the entities to come, are all
abbrev pub invariant-loop-entity : goal.invariant-loop-entity
invariant-loop-entity g l =
    (q : List ℕ) → update_all bytes_eq (table.get bytes_eq l.notes) (pairs_of (λ marker. marker) (items_left (λ values index. both (living_entity values.0.now index) (slot_at (slots_of values.1.now) index)) l.entity-iterator)) q
    ≡ update_all bytes_eq (λ _. None) (pairs_of (λ marker. marker) (marked_list l.entities (slot_at (slots_of l.storage.inner)))) q
