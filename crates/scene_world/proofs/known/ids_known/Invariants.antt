use Rattle.std.proofs.Common.{◌≡◌, drop}
use Rattle.std.specs.List.{filter_map}
use Rattle.scene_model.specs.Ids.{ascending}
use Rattle.scene_world.specs.Known.{known_at, roll_held}
use Rattle.scene_world.proofs.known.ids_known.Given as goal

abbrev pub invariant-loop-place : goal.invariant-loop-place
invariant-loop-place g l = l.ids.keys ≡ ascending (filter_map (known_at (roll_held g.V.SceneValue.places (g.W.Holder.slots l.view))) (drop l.place l.indices))
