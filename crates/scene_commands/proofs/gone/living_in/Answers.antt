use Rattle.std.proofs.Common.{ap, sym, ◌∙◌, subst}
use Rattle.std.specs.Prelude.{option_and_then}
use Rattle.std.specs.Option.{option_copied, unwrap_or}
use Rattle.specs_entity.specs.Births.{none_born}
use Rattle.scene_commands.specs.Gone.{AreLiving}
use Rattle.scene_commands.proofs.LookLemmas.{lent-some}
use Rattle.scene_commands.proofs.GoneLemmas.{are-living}
use Rattle.scene_commands.proofs.gone.living_in.Goals as goal

pub returns-in_ok-living-in-Some-entities : goal.returns-in_ok-living-in-Some-entities
returns-in_ok-living-in-Some-entities g c =
    subst (λ births. AreLiving births c.in_ok-living-in-Some-entities.living.items)
    (sym (ap (λ held. unwrap_or (option_and_then g.R.Value.SceneValue.places.births held) (none_born 0 0))
    (lent-some c.args.world.now g.R.Value.SceneValue.places.entities_id c.entities_id.result c.entities_id.ensures c.get_raw.result c.get_raw.ensures c.in-Some.value c.in-Some.is)
    ∙ ap (λ o. unwrap_or o (none_born 0 0)) (sym c.entities.ensures ∙ ap option_copied c.in-Some-entities.is)))
    (are-living c.in-Some-entities.entities.now c.in_ok-living-in-Some-entities.living.items c.the_living_are_below_the_limit.ensures c.in_ok-living-in-Some-entities.ensures.value c.in_ok-living-in-Some-entities.ensures.killable)
