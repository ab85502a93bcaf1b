use Rattle.serde_json.specs.View.{view}
use Rattle.scene_document.proofs.CallerLemmas.{unrefused}
use Rattle.scene_cases.proofs.commands.texts.world_of.Goals as goal

pub returns-in-Ok-load_world-clause-stands : goal.returns-in-Ok-load_world-clause-stands
returns-in-Ok-load_world-clause-stands g c =
    let found = c.in-Ok.ensures in (
      found.0,
      found.1,
      c.in-Ok-load_world.ensures.stands found.0 c.args.limits.indices found.2 (unrefused (g.R.DocumentRules.book c.args.rules.now) c.args.limits.indices (view c.args.json.now) found.0 found.1),
    )
