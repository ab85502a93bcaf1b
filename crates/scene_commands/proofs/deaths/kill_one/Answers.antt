use Rattle.std.proofs.Common.{refl, sym, ◌∙◌, subst}
use Rattle.scene_world.specs.Places.{kinds_of}
use Rattle.scene_commands.specs.Acts.{seen_of}
use Rattle.scene_commands.specs.Deaths.{DropsParts, Unmarks}
use Rattle.scene_commands.proofs.KillLemmas.{one-died}
use Rattle.scene_commands.proofs.deaths.kill_one.Goals as goal

pub returns : goal.returns
returns g c =
    one-died (kinds_of g.R.Value.SceneValue.places g.R.DocumentRules.part_of g.R.WorldRules.columns) g.met.R.WorldRules.apart c.args.world.now c.take_all.new.world c.unmark.new.world c.forget.new.world c.let_die.new.world c.args.id c.in-Some.entity.id
    (subst (λ i. DropsParts (kinds_of g.R.Value.SceneValue.places g.R.DocumentRules.part_of g.R.WorldRules.columns) i g.R.WorldRules.columns.part_names (seen_of c.args.world.now) (seen_of c.take_all.new.world)) c.id.ensures c.in_ok-take_all.ensures)
    (subst (λ i. Unmarks (kinds_of g.R.Value.SceneValue.places g.R.DocumentRules.part_of g.R.WorldRules.columns) i (seen_of c.take_all.new.world) (seen_of c.unmark.new.world)) c.id-2.ensures c.in_ok-unmark.ensures)
    c.in_ok-forget.ensures c.in_ok-let_die.ensures c.requires c.in-Some.entity (sym c.entity_under.ensures.value ∙ c.in-Some.is) refl
