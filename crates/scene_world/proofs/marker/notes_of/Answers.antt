use Rattle.std.proofs.Common.{ℕ, Some, cond, sym, ap, ◌∙◌, List, nat_eq}
use Rattle.std.specs.HashMap as table
use Rattle.std.specs.Map.{update_all}
use Rattle.specs_entity.specs.Life.{LifeAt}
use Rattle.specs_join.specs.Joins.{both, living_entity}
use Rattle.specs_join.specs.Joining.{items_left}
use Rattle.scene_world.specs.Markers.{marker_in}
use Rattle.specs_markers.specs.Noting.{pairs_of}
use Rattle.specs_markers.proofs.CallerLemmas.{one-noted}
use Rattle.scene_world.proofs.marker.notes_of.Goals as goal

pub loop-entity-preserved : goal.loop-entity-preserved
loop-entity-preserved c q =
    one-noted nat_eq (table.get nat_eq c.loop-entity.notes) (table.get nat_eq c.insert.new.self) c.in-Some.marker.now c.in-Some.entity
    (pairs_of (λ marker. marker) (items_left (λ values index. both (living_entity values.0.now index) (marker_in values.1.now index)) c.next.new.self)) q
    (λ p. c.in_ok-insert.ensures.updates.0 p ∙ ap (λ k. cond (nat_eq k p) (Some c.in-Some.entity) (table.get nat_eq c.loop-entity.notes p)) c.id.ensures)
    ∙ ap (λ (items : List (LifeAt × ℕ)). update_all nat_eq (table.get nat_eq c.loop-entity.notes) (pairs_of (λ marker. marker) items) q) (sym c.in-Some.ensures.steps)
    ∙ c.loop-entity.invariant q
