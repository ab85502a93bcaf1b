use Rattle.std.proofs.Common.{ap, ◌∙◌}
use Rattle.std.specs.Prelude.{min}
use Rattle.scene_world.specs.Places.{kinds_of}
use Rattle.scene_commands.specs.Fills.{filled_with}
use Rattle.scene_commands.proofs.LoadLemmas.{loaded, loaded-bounded}
use Rattle.scene_commands.proofs.load.load_world.Goals as goal

pub returns-clause-stands : goal.returns-clause-stands
returns-clause-stands g c plain indices is passed =
    loaded (kinds_of g.R.Value.SceneValue.places g.R.DocumentRules.part_of g.R.WorldRules.columns) g.R.DocumentRules.part_of g.R.DocumentRules.global_of g.R.DocumentRules.kind_of g.R.DocumentRules.config_of (g.R.DocumentRules.book c.args.rules.now) plain c.args.draft.now indices is passed
    c.fill_world.new.world c.in_ok-fill_world.ensures.may
    (c.in_ok-fill_world.ensures.scene ∙ ap (filled_with g.R.DocumentRules.part_of g.R.DocumentRules.global_of (g.R.DocumentRules.book c.args.rules.now) c.args.draft.now) c.in_ok-world.ensures.scene)

pub returns-clause-bounded : goal.returns-clause-bounded
returns-clause-bounded g c plain indices is passed =
    loaded-bounded (kinds_of g.R.Value.SceneValue.places g.R.DocumentRules.part_of g.R.WorldRules.columns) g.R.DocumentRules.part_of g.R.DocumentRules.global_of g.R.DocumentRules.kind_of g.R.DocumentRules.config_of (g.R.DocumentRules.book c.args.rules.now) plain c.args.draft.now indices is passed
    c.fill_world.new.world c.in_ok-fill_world.ensures.may
    (c.in_ok-fill_world.ensures.scene ∙ ap (filled_with g.R.DocumentRules.part_of g.R.DocumentRules.global_of (g.R.DocumentRules.book c.args.rules.now) c.args.draft.now) c.in_ok-world.ensures.scene)
    c.in_ok-world.world (min c.args.limits.0 16777216) (min c.args.limits.1 2147483647) c.in_ok-world.ensures.births c.in_ok-fill_world.ensures.grows
