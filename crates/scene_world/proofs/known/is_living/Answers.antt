use Rattle.std.proofs.Common.{ap, sym, ◌∙◌}
use Rattle.std.specs.Prelude.{option_and_then}
use Rattle.std.specs.Option.{option_copied}
use Rattle.shred_world.specs.Bundles.{readable}
use Rattle.scene_world.proofs.KnownLemmas.{lent-none, lent-some, none-lives}
use Rattle.scene_world.proofs.known.is_living.Goals as goal

pub returns-in_default : goal.returns-in_default
returns-in_default g c =
    sym (none-lives g.V.SceneValue.places.births (readable (g.W.Holder.slots c.args.view.now g.V.SceneValue.places.entities_id)) c.args.entity
    (ap (option_and_then g.V.SceneValue.places.births) (lent-none (g.W.Holder.slots c.args.view.now) g.V.SceneValue.places.entities_id c.entities_id.result c.entities_id.ensures c.value.result c.value.ensures c.in_default.is)))

pub returns-in-None : goal.returns-in-None
returns-in-None g c =
    sym (none-lives g.V.SceneValue.places.births (readable (g.W.Holder.slots c.args.view.now g.V.SceneValue.places.entities_id)) c.args.entity
    (ap (option_and_then g.V.SceneValue.places.births) (lent-some (g.W.Holder.slots c.args.view.now) g.V.SceneValue.places.entities_id c.entities_id.result c.entities_id.ensures c.value.result c.value.ensures c.in-Some.value c.in-Some.is)
    ∙ sym c.entities.ensures ∙ ap option_copied c.in-None.is))
