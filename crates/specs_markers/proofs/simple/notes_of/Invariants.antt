use Rattle.std.proofs.Common.{◌≡◌, ℕ, None, nat_eq}
use Rattle.std.specs.HashMap as table
use Rattle.std.specs.Map.{update_all}
use Rattle.specs_join.specs.Joins.{both, living_entity}
use Rattle.specs_join.specs.Joining.{items_left}
use Rattle.specs_layouts.specs.Dense.{dense_part}
use Rattle.specs_markers.specs.Noting.{marked_list, pairs_of}
use Rattle.specs_markers.proofs.simple.notes_of.Given as goal

-- the notes so far, with those of the entities to come, are all
abbrev pub invariant-loop-entity : goal.invariant-loop-entity
invariant-loop-entity g l =
    (q : ℕ) → update_all nat_eq (table.get nat_eq l.notes) (pairs_of (λ marker. marker) (items_left (λ values index. both (living_entity values.0.now index) (dense_part values.1.now index)) l.entity-iterator)) q
    ≡ update_all nat_eq (λ _. None) (pairs_of (λ marker. marker) (marked_list l.entities (dense_part l.storage.inner))) q
