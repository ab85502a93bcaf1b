use Rattle.std.proofs.Common.{ap, sym, ◌∙◌, subst}
use Rattle.std.specs.Prelude.{is_some, OnOk}
use Rattle.std.proofs.lemmas.Result.{on_ok_weaker}
use Rattle.scene_world.specs.Places.{kinds_of}
use Rattle.scene_world.specs.Standing.{roll_of}
use Rattle.scene_commands.specs.Acts.{seen_of}
use Rattle.scene_commands.specs.Newborns.{Marks}
use Rattle.scene_commands.proofs.LookLemmas.{lives-under}
use Rattle.scene_commands.proofs.EnterLemmas.{enters}
use Rattle.scene_commands.proofs.entering.enter_entity.Goals as goal

pub returns : goal.returns
returns g c =
    on_ok_weaker c.mark.result
    (enters (kinds_of g.R.Value.SceneValue.places g.R.DocumentRules.part_of g.R.WorldRules.columns) g.met.R.WorldRules.apart c.args.world.now (seen_of c.bring_to_life.new.world) (seen_of c.note_under.new.world) c.mark.new.world c.in-Ok.entity c.args.id
    c.requires.may (lives-under (roll_of (kinds_of g.R.Value.SceneValue.places g.R.DocumentRules.part_of g.R.WorldRules.columns) (seen_of c.args.world.now)) c.args.id ∙ ap is_some (sym c.entity_under.ensures.value) ∙ sym c.is_some.ensures ∙ c.if-is_some.false)
    c.in-Ok.ensures.ok c.in_ok-note_under.ensures)
    (subst (λ index. OnOk c.mark.result (Marks (kinds_of g.R.Value.SceneValue.places g.R.DocumentRules.part_of g.R.WorldRules.columns) index c.args.id (seen_of c.note_under.new.world) (seen_of c.mark.new.world))) c.id.ensures c.mark.ensures)
