use Rattle.std.proofs.Common.{◌++◌, ◌∙◌, ap, sym}
use Rattle.std.specs.List.{flat_map}
use Rattle.std.proofs.lemmas.List.{take_all, append-nil}
use Rattle.scene_model.specs.Declaring.{texts}
use Rattle.scene_world.specs.Places.{kinds_of}
use Rattle.scene_commands.specs.Acts.{seen_of}
use Rattle.scene_commands.specs.Owning.{pairs_under}
use Rattle.scene_commands.proofs.DropLemmas.{no_name}
use Rattle.scene_commands.proofs.PairLemmas.{kinds-more}
use Rattle.scene_commands.proofs.owning.pair_all.Goals as goal

pub loop-kind-init : goal.loop-kind-init
loop-kind-init g c = sym (append-nil c.args.pairs.now.items)

pub loop-kind-preserved : goal.loop-kind-preserved
loop-kind-preserved g c =
    kinds-more (pairs_under (kinds_of g.R.Value.SceneValue.places g.R.DocumentRules.part_of g.R.WorldRules.columns) (seen_of c.args.world.now) c.args.entity) c.args.names.now c.loop-kind.kind-index no_name c.loop-kind-test.true
    c.args.pairs.now.items c.loop-kind.pairs.items c.pair_under.new.pairs.items c.loop-kind.invariant c.in_ok-pair_under.ensures

pub returns : goal.returns
returns g c =
    c.loop-kind.invariant
    ∙ ap (λ l. c.args.pairs.now.items ++ flat_map (pairs_under (kinds_of g.R.Value.SceneValue.places g.R.DocumentRules.part_of g.R.WorldRules.columns) (seen_of c.args.world.now) c.args.entity) (texts l)) (take_all c.loop-kind.kind-index c.args.names.now c.loop-kind-test.false)
