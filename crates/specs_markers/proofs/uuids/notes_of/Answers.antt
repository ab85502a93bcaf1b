use Rattle.std.proofs.Common.{ℕ, Some, cond, sym, ap, ◌∙◌, List}
use Rattle.std.specs.HashMap as table
use Rattle.std.specs.Map.{update_all}
use Rattle.std.specs.Str.{bytes_eq}
use Rattle.specs_entity.specs.Life.{LifeAt}
use Rattle.specs_join.specs.Joins.{both, living_entity}
use Rattle.specs_join.specs.Joining.{items_left}
use Rattle.specs_layouts.specs.Slots.{slot_at, slots_of}
use Rattle.specs_markers.specs.Noting.{pairs_of}
use Rattle.specs_markers.proofs.NoteLemmas.{one-noted}
use Rattle.specs_markers.proofs.uuids.notes_of.Goals as goal

pub loop-entity-preserved : goal.loop-entity-preserved
loop-entity-preserved g c q =
    one-noted bytes_eq (table.get bytes_eq c.loop-entity.notes) (table.get bytes_eq c.insert.new.self) c.in-Some.marker.now c.in-Some.entity
    (pairs_of (λ marker. marker) (items_left (λ values index. both (living_entity values.0.now index) (slot_at (slots_of values.1.now) index)) c.next.new.self)) q
    (λ p. c.in_ok-insert.ensures.updates.0 p ∙ ap (λ k. cond (bytes_eq k p) (Some c.in-Some.entity) (table.get bytes_eq c.loop-entity.notes p)) c.uuid.ensures)
    ∙ ap (λ (items : List (LifeAt × List ℕ)). update_all bytes_eq (table.get bytes_eq c.loop-entity.notes) (pairs_of (λ marker. marker) items) q) (sym c.in-Some.ensures.steps)
    ∙ c.loop-entity.invariant q
