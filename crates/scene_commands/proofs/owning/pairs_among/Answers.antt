use Rattle.std.proofs.Common.{◌∙◌, ap}
use Rattle.std.specs.List.{flat_map}
use Rattle.std.proofs.lemmas.List.{take_all}
use Rattle.scene_model.specs.Declaring.{texts}
use Rattle.scene_world.specs.Places.{kinds_of}
use Rattle.scene_commands.specs.Acts.{seen_of}
use Rattle.scene_commands.specs.Owning.{pairs_of}
use Rattle.scene_commands.proofs.PairLemmas.{items-more}
use Rattle.scene_commands.proofs.owning.pairs_among.Goals as goal

pub loop-entity-preserved : goal.loop-entity-preserved
loop-entity-preserved g c = items-more (pairs_of (kinds_of g.R.Value.SceneValue.places g.R.DocumentRules.part_of g.R.WorldRules.columns) (seen_of c.args.world.now) (texts c.args.names.now)) c.args.entities.now c.loop-entity.entity-index c.entity-item.result c.loop-entity-test.true c.entity-item.is
    c.loop-entity.pairs.items c.pair_all.new.pairs.items c.loop-entity.invariant c.in_ok-pair_all.ensures

pub returns : goal.returns
returns g c =
    c.loop-entity.invariant
    ∙ ap (flat_map (pairs_of (kinds_of g.R.Value.SceneValue.places g.R.DocumentRules.part_of g.R.WorldRules.columns) (seen_of c.args.world.now) (texts c.args.names.now))) (take_all c.loop-entity.entity-index c.args.entities.now c.loop-entity-test.false)
