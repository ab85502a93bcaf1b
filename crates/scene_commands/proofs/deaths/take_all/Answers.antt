use Rattle.std.proofs.Common.{◌≡◌, true, sym, subst, get_or}
use Rattle.scene_model.specs.Parts.{is_among}
use Rattle.scene_world.specs.Places.{kinds_of}
use Rattle.scene_commands.specs.Acts.{seen_of}
use Rattle.scene_commands.specs.Deaths.{DropsParts}
use Rattle.scene_commands.proofs.DropLemmas.{no_name, drops-none, drops-more, named-there, texts-more}
use Rattle.scene_commands.proofs.deaths.take_all.Goals as goal

pub take_at-requires : goal.take_at-requires
take_at-requires g c = record { known = subst (λ names. is_among (get_or c.args.names.now c.loop-kind.kind-index no_name).now names ≡ true) c.requires (named-there c.args.names.now c.loop-kind.kind-index no_name c.loop-kind-test.true) }

pub loop-kind-init : goal.loop-kind-init
loop-kind-init g c = drops-none (kinds_of g.R.Value.SceneValue.places g.R.DocumentRules.part_of g.R.WorldRules.columns) c.args.index (seen_of c.args.world.now)

pub loop-kind-preserved : goal.loop-kind-preserved
loop-kind-preserved g c =
    subst (λ names. DropsParts (kinds_of g.R.Value.SceneValue.places g.R.DocumentRules.part_of g.R.WorldRules.columns) c.args.index names (seen_of c.args.world.now) (seen_of c.take_at.new.world)) (sym (texts-more c.args.names.now c.loop-kind.kind-index no_name c.loop-kind-test.true))
    (drops-more (kinds_of g.R.Value.SceneValue.places g.R.DocumentRules.part_of g.R.WorldRules.columns) g.met.R.WorldRules.apart c.args.index _ (seen_of c.args.world.now) (seen_of c.loop-kind.world) (seen_of c.take_at.new.world) c.loop-kind.invariant (get_or c.args.names.now c.loop-kind.kind-index no_name).now
    (subst (λ names. is_among (get_or c.args.names.now c.loop-kind.kind-index no_name).now names ≡ true) c.requires (named-there c.args.names.now c.loop-kind.kind-index no_name c.loop-kind-test.true)) c.in_ok-take_at.ensures)
