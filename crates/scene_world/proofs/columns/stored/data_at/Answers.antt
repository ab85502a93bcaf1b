use Rattle.std.proofs.Common.{[], ℕ, Option, option_map, ap, ◌∙◌}
use Rattle.scene_model.specs.Parts.{Part}
use Rattle.scene_world.specs.Putting.{part_read, each_there}
use Rattle.scene_world.proofs.EachLemmas.{each-more}
use Rattle.scene_world.proofs.columns.stored.data_at.Goals as goal

pub loop-entity-preserved : goal.loop-entity-preserved
loop-entity-preserved g c =
    let read : ℕ → Option Part = λ index. option_map (part_read []) (option_map g.T.PlainPart.stored (g.T.Storage.UnprotectedStorage.part_at c.args.parts.now.inner index)) in
    ap (each_there (option_map g.T.PlainPart.part_of)) c.in_ok-push.ensures.items
    ∙ each-more (option_map g.T.PlainPart.part_of) read c.loop-entity.found.items c.args.entities.now c.loop-entity.entity-index (0, 0) c.loop-entity-test.true c.loop-entity.invariant c.in_ok-datum.datum c.in_ok-datum.ensures
