use Rattle.std.proofs.Common.{ap, sym, ◌∙◌}
use Rattle.std.specs.Prelude.{option_and_then}
use Rattle.std.specs.Option.{option_copied}
use Rattle.scene_commands.specs.Acts.{seen_of}
use Rattle.scene_world.proofs.CallerLemmas.{none-lives}
use Rattle.scene_commands.proofs.LookLemmas.{lent-none, lent-some}
use Rattle.scene_commands.proofs.looking.is_living.Goals as goal

pub returns-in_default-clause-value : goal.returns-in_default-clause-value
returns-in_default-clause-value g c =
    sym (none-lives g.R.Value.SceneValue.places.births (seen_of c.args.world.now g.R.Value.SceneValue.places.entities_id) c.args.entity
    (ap (option_and_then g.R.Value.SceneValue.places.births) (lent-none c.args.world.now g.R.Value.SceneValue.places.entities_id c.entities_id.result c.entities_id.ensures c.get_raw.result c.get_raw.ensures c.in_default.is)))

pub returns-in-None-clause-value : goal.returns-in-None-clause-value
returns-in-None-clause-value g c =
    sym (none-lives g.R.Value.SceneValue.places.births (seen_of c.args.world.now g.R.Value.SceneValue.places.entities_id) c.args.entity
    (ap (option_and_then g.R.Value.SceneValue.places.births) (lent-some c.args.world.now g.R.Value.SceneValue.places.entities_id c.entities_id.result c.entities_id.ensures c.get_raw.result c.get_raw.ensures c.in-Some.value c.in-Some.is)
    ∙ sym c.entities.ensures ∙ ap option_copied c.in-None.is))
