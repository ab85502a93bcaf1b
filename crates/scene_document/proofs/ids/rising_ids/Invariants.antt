use Rattle.std.proofs.Common.{◌≡◌, ◌≤◌, [], length, map, take, vec_capacity, All, MatchOption}
use Rattle.scene_model.specs.Scenes.{IdsAscend}
use Rattle.scene_document.proofs.ids.rising_ids.Given as goal

abbrev pub invariant-loop-entity : goal.invariant-loop-entity
invariant-loop-entity g l = record {
  ids : l.ids.items ≡ map (λ entity. entity.id) (take l.entity-index l.entities);
  ascend : IdsAscend l.ids.items;
  below : MatchOption l.last (l.ids.items ≡ []) (λ last. All (λ id. id ≤ last) l.ids.items);
  room : length l.entities ≤ vec_capacity l.ids;
}
