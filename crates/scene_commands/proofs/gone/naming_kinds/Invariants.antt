use Rattle.std.proofs.Common.{◌≡◌, ℕ, Bool, take}
use Rattle.std.specs.Prelude.{option_map}
use Rattle.std.specs.List.{list_any}
use Rattle.scene_model.specs.Commands.{holds_gone}
use Rattle.scene_model.specs.Declaring.{texts}
use Rattle.scene_model.specs.Parts.{Name}
use Rattle.scene_world.specs.Places.{kinds_of}
use Rattle.scene_world.specs.Rolls.{ref_to}
use Rattle.scene_world.specs.Standing.{column_of, roll_of}
use Rattle.scene_world.specs.Stored.{part_under}
use Rattle.scene_commands.specs.Acts.{seen_of}
use Rattle.scene_commands.proofs.gone.naming_kinds.Given as goal

-- who holds a gone reference under one of the kinds so far does so under one that was taken
abbrev pub invariant-loop-kind : goal.invariant-loop-kind
invariant-loop-kind g l =
    let holds : ℕ → Name → Bool = λ index kind. holds_gone (option_map (part_under (ref_to (roll_of (kinds_of g.R.Value.SceneValue.places g.R.DocumentRules.part_of g.R.WorldRules.columns) (seen_of l.world)))) (column_of (kinds_of g.R.Value.SceneValue.places g.R.DocumentRules.part_of g.R.WorldRules.columns) (seen_of l.world) kind index)) in
    (index : ℕ) → list_any (holds index) (texts l.kinds.items) ≡ list_any (holds index) (texts (take l.kind-index l.names))
