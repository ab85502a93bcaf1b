use Rattle.std.proofs.Common.{take}
use Rattle.std.specs.Prelude.{option_map}
use Rattle.std.specs.List.{list_any}
use Rattle.scene_model.specs.Commands.{holds_gone}
use Rattle.scene_world.specs.Places.{kinds_of}
use Rattle.scene_world.specs.Rolls.{ref_to}
use Rattle.scene_world.specs.Standing.{column_of, roll_of}
use Rattle.scene_world.specs.Stored.{part_under}
use Rattle.scene_commands.specs.Acts.{seen_of}
use Rattle.scene_commands.proofs.GoneLemmas.{IsLeast}
use Rattle.scene_commands.proofs.gone.find_gone.Given as goal

abbrev pub invariant-loop-entity : goal.invariant-loop-entity
invariant-loop-entity g l =
    IsLeast (roll_of (kinds_of g.R.Value.SceneValue.places g.R.DocumentRules.part_of g.R.WorldRules.columns) (seen_of l.world))
    (λ index. list_any (λ kind. holds_gone (option_map (part_under (ref_to (roll_of (kinds_of g.R.Value.SceneValue.places g.R.DocumentRules.part_of g.R.WorldRules.columns) (seen_of l.world))))
    (column_of (kinds_of g.R.Value.SceneValue.places g.R.DocumentRules.part_of g.R.WorldRules.columns) (seen_of l.world) kind index))) (g.R.DocumentRules.book l.rules).part_names)
    (take l.entity-index l.entity-items) l.least
