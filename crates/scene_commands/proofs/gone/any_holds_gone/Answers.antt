use Rattle.std.proofs.Common.{sym, ◌∙◌}
use Rattle.std.specs.Prelude.{option_map}
use Rattle.scene_model.specs.Commands.{holds_gone}
use Rattle.scene_world.specs.Places.{kinds_of}
use Rattle.scene_world.specs.Rolls.{ref_to}
use Rattle.scene_world.specs.Standing.{column_of, roll_of}
use Rattle.scene_world.specs.Stored.{part_under}
use Rattle.scene_commands.specs.Acts.{seen_of}
use Rattle.scene_commands.proofs.DropLemmas.{no_name}
use Rattle.scene_commands.proofs.GoneLemmas.{any-here}
use Rattle.scene_commands.proofs.gone.any_holds_gone.Goals as goal

pub returns-then-branch : goal.returns-then-branch
returns-then-branch g c =
    sym (any-here (λ name. name.now) c.args.names.now c.loop-kind.kind-index no_name c.loop-kind-test.true
    (λ kind. holds_gone (option_map (part_under (ref_to (roll_of (kinds_of g.R.Value.SceneValue.places g.R.DocumentRules.part_of g.R.WorldRules.columns) (seen_of c.args.world.now))))
    (column_of (kinds_of g.R.Value.SceneValue.places g.R.DocumentRules.part_of g.R.WorldRules.columns) (seen_of c.args.world.now) kind c.args.index)))
    (sym c.in_ok-part_holds_gone.ensures ∙ c.if-branch.true))
