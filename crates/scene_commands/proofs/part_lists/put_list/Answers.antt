use Rattle.std.proofs.Common.{arith, [], ◌∷◌, map, ap, sym, ◌∙◌, subst}
use Rattle.scene_model.specs.Declaring.{texts}
use Rattle.scene_document.specs.DraftViews.{named}
use Rattle.scene_commands.specs.Entries.{with_one, with_list}
use Rattle.scene_world.specs.Places.{kinds_of}
use Rattle.scene_world.specs.Standing.{roll_of, plain_of}
use Rattle.scene_commands.specs.Acts.{seen_of, entity_under}
use Rattle.scene_commands.proofs.BoundLemmas.{grows-living}
use Rattle.scene_commands.proofs.BecomeLemmas.{back-step}
use Rattle.scene_commands.proofs.part_lists.put_list.Goals as goal

pub loop-index-preserved : goal.loop-index-preserved
loop-index-preserved g c =
    let kinds = kinds_of g.R.Value.SceneValue.places g.R.DocumentRules.part_of g.R.WorldRules.columns in
    let last = back-step c.args.parts.now c.loop-index.index c.index-parts-index.result (omega (arith, c.loop-index-test.true)) (omega (arith, c.loop-index.auto.index)) c.index-parts-index.is in (
      record {
        may = c.in_ok-put_one.ensures.becomes.may;
        scene = c.in_ok-put_one.ensures.becomes.scene ∙ ap (with_one c.args.id (named g.R.DocumentRules.part_of (texts c.args.names.now) c.index-parts-index.result)) c.loop-index.invariant.0.scene
            ∙ ap (λ list. with_list c.args.id (map (named g.R.DocumentRules.part_of (texts c.args.names.now)) list) (plain_of kinds (seen_of c.args.world.now))) (sym last);
        queues = λ position. c.in_ok-put_one.ensures.becomes.queues position ∙ c.loop-index.invariant.0.queues position;
        grows = grows-living (roll_of kinds (seen_of c.args.world.now)) (roll_of kinds (seen_of c.loop-index.world)) (roll_of kinds (seen_of c.put_one.new.world)) c.loop-index.invariant.0.grows c.in_ok-put_one.ensures.becomes.grows;
      },
      ap (λ roll. entity_under roll c.args.id) c.in_ok-put_one.ensures.roll ∙ c.loop-index.invariant.1,
    )
