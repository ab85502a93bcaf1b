use Rattle.std.proofs.Common.{◌≡◌, ◌++◌, [], ◌∷◌, true, take, get_or, sym, ◌∙◌, ap, subst}
use Rattle.std.proofs.lemmas.List.{take_all}
use Rattle.scene_model.specs.Declaring.{texts}
use Rattle.scene_model.specs.Parts.{is_among}
use Rattle.scene_world.specs.Places.{kinds_of}
use Rattle.scene_commands.specs.Acts.{seen_of}
use Rattle.scene_commands.specs.Watching.{WatchesKinds}
use Rattle.scene_commands.proofs.DropLemmas.{no_name, named-there, texts-more}
use Rattle.scene_commands.proofs.WatchLemmas.{watches-none, watches-more}
use Rattle.scene_commands.proofs.watching.watch_kinds.Goals as goal

pub loop-kind-init : goal.loop-kind-init
loop-kind-init g c =
    subst (λ items. WatchesKinds (kinds_of g.R.Value.SceneValue.places g.R.DocumentRules.part_of g.R.WorldRules.columns) [] items (seen_of c.args.world.now) (seen_of c.args.world.now)) (sym c.new-watchers.ensures.items) (watches-none (kinds_of g.R.Value.SceneValue.places g.R.DocumentRules.part_of g.R.WorldRules.columns) (seen_of c.args.world.now))

pub loop-kind-preserved : goal.loop-kind-preserved
loop-kind-preserved g c =
    subst (λ names. WatchesKinds (kinds_of g.R.Value.SceneValue.places g.R.DocumentRules.part_of g.R.WorldRules.columns) names c.push.new.self.items (seen_of c.args.world.now) (seen_of c.watch_kind.new.world)) (sym (texts-more c.args.names.now c.loop-kind.kind-index no_name c.loop-kind-test.true))
    (subst (λ items. WatchesKinds (kinds_of g.R.Value.SceneValue.places g.R.DocumentRules.part_of g.R.WorldRules.columns) (texts (take c.loop-kind.kind-index c.args.names.now) ++ (get_or c.args.names.now c.loop-kind.kind-index no_name).now ∷ []) items (seen_of c.args.world.now) (seen_of c.watch_kind.new.world)) (sym c.in_ok-push.ensures.items)
    (watches-more (kinds_of g.R.Value.SceneValue.places g.R.DocumentRules.part_of g.R.WorldRules.columns) g.met.R.WorldRules.apart (get_or c.args.names.now c.loop-kind.kind-index no_name).now
    (subst (λ names. is_among (get_or c.args.names.now c.loop-kind.kind-index no_name).now names ≡ true) c.requires (named-there c.args.names.now c.loop-kind.kind-index no_name c.loop-kind-test.true))
    c.in_ok-watcher.watcher (seen_of c.loop-kind.world) (seen_of c.watch_kind.new.world) c.in_ok-watcher.ensures
    (texts (take c.loop-kind.kind-index c.args.names.now)) c.loop-kind.watchers.items (seen_of c.args.world.now) c.loop-kind.invariant))

pub returns : goal.returns
returns g c =
    subst (λ names. WatchesKinds (kinds_of g.R.Value.SceneValue.places g.R.DocumentRules.part_of g.R.WorldRules.columns) names c.loop-kind.watchers.items (seen_of c.args.world.now) (seen_of c.loop-kind.world))
    (ap texts (take_all c.loop-kind.kind-index c.args.names.now c.loop-kind-test.false) ∙ c.requires) c.loop-kind.invariant
