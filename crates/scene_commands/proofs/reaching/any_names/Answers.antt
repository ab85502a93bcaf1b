use Rattle.std.proofs.Common.{sym, ◌∙◌}
use Rattle.scene_world.specs.Places.{kinds_of}
use Rattle.scene_world.specs.Putting.{named_in}
use Rattle.scene_world.specs.Standing.{column_of}
use Rattle.scene_commands.specs.Acts.{seen_of}
use Rattle.scene_commands.specs.Reaching.{any_at}
use Rattle.scene_commands.proofs.DropLemmas.{no_name}
use Rattle.scene_commands.proofs.GoneLemmas.{any-here}
use Rattle.scene_commands.proofs.reaching.any_names.Goals as goal

pub returns-then-branch : goal.returns-then-branch
returns-then-branch g c =
    sym (any-here (λ name. name.now) c.args.names.now c.loop-kind.kind-index no_name c.loop-kind-test.true
    (λ kind. any_at c.args.target (named_in (column_of (kinds_of g.R.Value.SceneValue.places g.R.DocumentRules.part_of g.R.WorldRules.columns) (seen_of c.args.world.now) kind c.args.index)))
    (sym c.in_ok-kind_names.ensures ∙ c.if-branch.true))
