use Rattle.std.proofs.Common.{ap, sym, ◌∙◌, ◌++◌, map}
use Rattle.std.specs.Prelude.{option_and_then, option_map}
use Rattle.std.specs.List.{list_any}
use Rattle.scene_model.specs.Commands.{holds_gone, is_gone}
use Rattle.scene_world.specs.Places.{kinds_of}
use Rattle.scene_world.specs.Putting.{named_in}
use Rattle.scene_world.specs.Rolls.{Roll, ref_to}
use Rattle.scene_world.specs.Standing.{roll_of}
use Rattle.scene_world.specs.Stored.{part_under}
use Rattle.scene_commands.specs.Acts.{seen_of}
use Rattle.scene_commands.proofs.LookLemmas.{lent-some}
use Rattle.scene_commands.proofs.GoneLemmas.{holds-named, one-gone, still-there}
use Rattle.scene_commands.proofs.gone.part_holds_gone.Goals as goal

pub returns-then-not-is_living : goal.returns-then-not-is_living
returns-then-not-is_living g c =
    let roll : Roll = roll_of (kinds_of g.R.Value.SceneValue.places g.R.DocumentRules.part_of g.R.WorldRules.columns) (seen_of c.args.world.now) in
    let items = c.as_slice-entity-items.ensures.value ∙ c.in_ok-named_at.ensures ∙ ap (λ l. l ++ named_in (g.R.WorldRules.columns.stored c.args.kind.now c.in-Some.value.now c.args.index)) c.clear.ensures.items in
    sym (ap (λ held. holds_gone (option_map (part_under (ref_to roll)) (option_and_then (λ v. g.R.WorldRules.columns.stored c.args.kind.now v c.args.index) held)))
    (lent-some c.args.world.now (g.R.WorldRules.columns.part_id c.args.kind.now) c.part_id.result c.part_id.ensures c.get_raw.result c.get_raw.ensures c.in-Some.value c.in-Some.is)
    ∙ holds-named (ref_to roll) (g.R.WorldRules.columns.stored c.args.kind.now c.in-Some.value.now c.args.index)
    ∙ ap (λ named. list_any is_gone (map (ref_to roll) named)) (sym items)
    ∙ one-gone roll c.as_slice-entity-items.result.now c.loop-entity.entity-index c.entity-item.result c.loop-entity-test.true c.entity-item.is (sym c.is_living.ensures.value ∙ c.if-not-is_living.true))

pub loop-entity-preserved : goal.loop-entity-preserved
loop-entity-preserved g c =
    still-there (roll_of (kinds_of g.R.Value.SceneValue.places g.R.DocumentRules.part_of g.R.WorldRules.columns) (seen_of c.args.world.now)) c.as_slice-entity-items.result.now c.loop-entity.entity-index c.entity-item.result c.loop-entity-test.true c.entity-item.is
    c.requires.may.roll (sym c.is_living.ensures.value ∙ c.if-not-is_living.false) c.loop-entity.invariant
