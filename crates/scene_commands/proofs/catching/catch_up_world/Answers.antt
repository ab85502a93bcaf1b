use Rattle.std.proofs.Common.{length, ap, sym, subst, ◌∙◌}
use Rattle.std.proofs.lemmas.List.{length-map}
use denote.Ref.{Bor}
use Rattle.scene_model.specs.Declaring.{texts}
use Rattle.scene_model.specs.Laws.{Ascend}
use Rattle.scene_model.specs.Parts.{Name}
use Rattle.scene_world.specs.Places.{kinds_of}
use Rattle.scene_commands.specs.Acts.{seen_of}
use Rattle.scene_commands.specs.Watching.{ReadsKinds, ReadsMarkers, reader_at}
use Rattle.scene_commands.proofs.CatchLemmas.{name-known, caught-stays, caught-telling, caught-all}
use Rattle.scene_commands.proofs.catching.catch_up_world.Goals.{After-read_kinds}
use Rattle.scene_commands.proofs.catching.catch_up_world.Goals as goal

pub read_kinds-requires-clause-ascend : goal.read_kinds-requires-clause-ascend
read_kinds-requires-clause-ascend g c = subst Ascend (sym c.part_names.ensures) (g.met.R.DocumentRules.kinds_ascend c.args.rules.now)

pub read_kinds-requires-clause-known : goal.read_kinds-requires-clause-known
read_kinds-requires-clause-known g c = c.part_names.ensures ∙ sym (g.met.R.WorldRules.named_so c.args.rules.now).parts

pub read_kinds-requires-clause-many : goal.read_kinds-requires-clause-many
read_kinds-requires-clause-many g c =
    ap (λ watchers. length watchers) c.as_slice.ensures.value ∙ c.requires.many ∙ ap length (sym (c.part_names.ensures ∙ sym (g.met.R.WorldRules.named_so c.args.rules.now).parts)) ∙ length-map c.part_names.result.now (λ (name : Bor Name). name.now)

-- the reader of the markers has read all, and then those of the kinds
marked : (g : _) (c : After-read_kinds g) → ReadsMarkers (kinds_of g.R.Value.SceneValue.places g.R.DocumentRules.part_of g.R.WorldRules.columns) (reader_at c.args.turn c.args.watchers.now.markers) (seen_of c.args.world.now) (seen_of c.read_markers.new.world)
marked g c =
    subst (λ one. ReadsMarkers (kinds_of g.R.Value.SceneValue.places g.R.DocumentRules.part_of g.R.WorldRules.columns) one (seen_of c.args.world.now) (seen_of c.read_markers.new.world)) c.reader.ensures c.read_markers.ensures

read : (g : _) (c : After-read_kinds g) → let kinds = kinds_of g.R.Value.SceneValue.places g.R.DocumentRules.part_of g.R.WorldRules.columns in ReadsKinds kinds c.args.turn kinds.part_names c.args.watchers.now.parts.items (seen_of c.read_markers.new.world) (seen_of c.read_kinds.new.world)
read g c =
    let kinds = kinds_of g.R.Value.SceneValue.places g.R.DocumentRules.part_of g.R.WorldRules.columns in
    subst (λ names. ReadsKinds kinds c.args.turn names c.args.watchers.now.parts.items (seen_of c.read_markers.new.world) (seen_of c.read_kinds.new.world)) (c.part_names.ensures ∙ sym (g.met.R.WorldRules.named_so c.args.rules.now).parts)
    (subst (λ items. ReadsKinds kinds c.args.turn (texts c.part_names.result.now) items (seen_of c.read_markers.new.world) (seen_of c.read_kinds.new.world)) c.as_slice.ensures.value c.read_kinds.ensures)

pub returns-clause-caught : goal.returns-clause-caught
returns-clause-caught g c =
    let kinds = kinds_of g.R.Value.SceneValue.places g.R.DocumentRules.part_of g.R.WorldRules.columns in
    caught-all kinds g.met.R.WorldRules.apart c.args.turn c.args.watchers.now (seen_of c.args.world.now) (seen_of c.read_markers.new.world) (seen_of c.read_kinds.new.world) (marked g c) (read g c) (name-known kinds.part_names)

pub returns-clause-telling : goal.returns-clause-telling
returns-clause-telling g c =
    caught-telling (kinds_of g.R.Value.SceneValue.places g.R.DocumentRules.part_of g.R.WorldRules.columns) g.met.R.WorldRules.apart c.args.turn c.args.watchers.now (seen_of c.args.world.now) (seen_of c.read_markers.new.world) (seen_of c.read_kinds.new.world) (marked g c) (read g c) c.requires.telling

pub returns-clause-stays : goal.returns-clause-stays
returns-clause-stays g c =
    caught-stays (kinds_of g.R.Value.SceneValue.places g.R.DocumentRules.part_of g.R.WorldRules.columns) g.met.R.WorldRules.apart c.args.turn c.args.watchers.now (seen_of c.args.world.now) (seen_of c.read_markers.new.world) (seen_of c.read_kinds.new.world) (marked g c) (read g c)
