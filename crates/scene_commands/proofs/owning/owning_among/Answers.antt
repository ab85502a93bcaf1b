use Rattle.std.proofs.Common.{◌∙◌, map, ap, filter}
use Rattle.std.proofs.lemmas.List.{take_all}
use Rattle.scene_model.specs.Declaring.{texts}
use Rattle.scene_world.specs.Places.{kinds_of}
use Rattle.scene_commands.specs.Acts.{seen_of}
use Rattle.scene_commands.specs.Owning.{pairs_under, pairs_of}
use Rattle.scene_commands.proofs.DropLemmas.{no_name}
use Rattle.scene_commands.proofs.PairLemmas.{kind-owns, kind-owns_not}
use Rattle.scene_commands.proofs.owning.owning_among.Goals as goal
use Rattle.scene_commands.proofs.owning.owning_among.Goals.{then-may_own+in_ok-push, else-may_own}

pub loop-kind-preserved : goal.loop-kind-preserved
loop-kind-preserved g c =
    let kinds = kinds_of g.R.Value.SceneValue.places g.R.DocumentRules.part_of g.R.WorldRules.columns in
    λ entity. elim c.if-may_own.branch [
      | then-may_own+in_ok-push w ↦
          ap (λ list. pairs_of kinds (seen_of c.args.world.now) (texts list.items) entity) w.kinds-is ∙ ap (λ items. pairs_of kinds (seen_of c.args.world.now) (texts items) entity) w.in_ok-push.ensures.items
          ∙ kind-owns g.R.WorldRules.columns.owning (pairs_under kinds (seen_of c.args.world.now) entity) c.loop-kind.kinds.items c.args.names.now c.loop-kind.kind-index no_name c.loop-kind-test.true (c.loop-kind.invariant entity)
          (c.may_own.ensures.owning w.if-may_own.true)
      | else-may_own w ↦
          ap (λ list. pairs_of kinds (seen_of c.args.world.now) (texts list.items) entity) w.kinds-is
          ∙ kind-owns_not g.R.WorldRules.columns.owning (pairs_under kinds (seen_of c.args.world.now) entity) c.loop-kind.kinds.items c.args.names.now c.loop-kind.kind-index no_name c.loop-kind-test.true (c.loop-kind.invariant entity)
          (λ owns. ap (map (λ target. (entity, target))) (c.may_own.ensures.none w.if-may_own.false owns entity.id))
    ]

pub returns : goal.returns
returns g c = λ entity.
    c.loop-kind.invariant entity
    ∙ ap (λ list. pairs_of (kinds_of g.R.Value.SceneValue.places g.R.DocumentRules.part_of g.R.WorldRules.columns) (seen_of c.args.world.now) (filter g.R.WorldRules.columns.owning (texts list)) entity) (take_all c.loop-kind.kind-index c.args.names.now c.loop-kind-test.false)
