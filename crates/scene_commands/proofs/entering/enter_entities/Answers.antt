use Rattle.std.proofs.Common.{arith, [], ◌∷◌, map, ap, sym, ◌∙◌, subst}
use Rattle.scene_commands.specs.Entries.{with_entities}
use Rattle.scene_world.specs.Places.{kinds_of}
use Rattle.scene_world.specs.Standing.{roll_of, plain_of}
use Rattle.scene_commands.specs.Acts.{seen_of}
use Rattle.scene_commands.proofs.BoundLemmas.{grows-living}
use Rattle.scene_commands.proofs.BecomeLemmas.{back-step}
use Rattle.scene_commands.proofs.entering.enter_entities.Goals as goal

pub loop-index-preserved : goal.loop-index-preserved
loop-index-preserved g c =
    let kinds = kinds_of g.R.Value.SceneValue.places g.R.DocumentRules.part_of g.R.WorldRules.columns in
    let last = back-step c.args.entities.now c.loop-index.index c.index-entities-index.result (omega (arith, c.loop-index-test.true)) (omega (arith, c.loop-index.auto.index)) c.index-entities-index.is in
    record {
      may = c.in_ok-enter_entity.ensures.may;
      scene = c.in_ok-enter_entity.ensures.scene ∙ ap (λ entity. with_entities (entity.id ∷ []) (plain_of kinds (seen_of c.loop-index.world))) (sym c.index-entities-index.is)
          ∙ ap (with_entities (c.index-entities-index.result.id ∷ [])) c.loop-index.invariant.scene
          ∙ ap (λ list. with_entities (map (λ entity. entity.id) list) (plain_of kinds (seen_of c.args.world.now))) (sym last);
      queues = λ position. c.in_ok-enter_entity.ensures.queues position ∙ c.loop-index.invariant.queues position;
      grows = grows-living (roll_of kinds (seen_of c.args.world.now)) (roll_of kinds (seen_of c.loop-index.world)) (roll_of kinds (seen_of c.enter_entity.new.world)) c.loop-index.invariant.grows c.in_ok-enter_entity.ensures.grows;
    }
